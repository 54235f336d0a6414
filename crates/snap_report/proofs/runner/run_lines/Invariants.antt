use Rattle.std.proofs.Common.{◌≡◌, [], ◌-◌, ◌≤◌, length, IfSome}
use Rattle.snap_core.specs.Fields.{count as comps}
use Rattle.snap_io.specs.Causes.{NoneFell}
use Rattle.snap_io.specs.Files.{file_of}
use Rattle.snap_io.specs.LineReaders.{AgreesWith, lines_name}
use Rattle.snap_report.specs.Reading.{left_for, packet_in, spelled_where}
use Rattle.snap_report.specs.Runner.{Comes}
use Rattle.snap_report.proofs.runner.run_lines.Given as goal

abbrev pub invariant-loop-line : goal.invariant-loop-line
invariant-loop-line g l =
    let m = g.M.Machine in
    let shelf = g.S.Shelf in
    let sink = g.K.Sink in
    record {
      comes : IfSome (shelf.files l.fn.shelf) (λ files. (first : _) → m.stands first [] [] l.fn.machine → m.fields l.fn.machine ≡ m.fields first →
          Comes (m.stands first) (spelled_where (m.fields first) (m.accepts first) (file_of files (lines_name l.fn.reader.lines)))
          (left_for (m.fields first) (m.accepts first) (file_of files (lines_name l.fn.reader.lines)) l.reader) l.machine (sink.taken l.fn.sink) (sink.taken l.sink) l.out.text.items);
      ready : m.is_ready l.machine;
      count : m.count l.machine ≤ l.reader.read;
      fields : m.fields l.machine ≡ m.fields l.fn.machine;
      long : length (packet_in l.reader) ≡ comps (m.fields l.machine);
      name : lines_name l.reader.lines ≡ lines_name l.fn.reader.lines;
      agrees : AgreesWith (shelf.files l.shelf) l.reader.lines;
      files : shelf.files l.shelf ≡ shelf.files l.fn.shelf;
      later : NoneFell (shelf.faults l.fn.shelf) (shelf.faults l.shelf);
      sink_later : sink.faults l.fn.sink ≤ sink.faults l.sink;
    }

abbrev pub decreases-loop-line : goal.decreases-loop-line
decreases-loop-line g l = 1000000 - l.reader.read
