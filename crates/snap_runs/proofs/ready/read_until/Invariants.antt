use Rattle.std.proofs.Common.{◌≡◌, ◌≤◌, ◌-◌, ◌++◌, length, IfSome}
use Rattle.std.specs.List.{All}
use Rattle.snap_core.specs.Fields.{count}
use Rattle.snap_io.specs.Causes.{NoneFell}
use Rattle.snap_io.specs.Files.{file_of}
use Rattle.snap_io.specs.LineReaders.{AgreesWith, lines_name}
use Rattle.snap_report.specs.Reading.{packet_in}
use Rattle.snap_runs.specs.Plain.{spelled_for}
use Rattle.snap_runs.specs.Playing.{IsReady, packets_in}
use Rattle.snap_runs.specs.Reading.{left_of, said_at}
use Rattle.snap_runs.proofs.ready.read_until.Given as goal

abbrev pub invariant-loop-reader : goal.invariant-loop-reader
invariant-loop-reader g l =
    let shelf = g.S.Shelf in
    record {
      came : IfSome (shelf.files l.fn.shelf) (λ files.
          spelled_for l.tables (file_of files l.name) ≡ record { packets = packets_in l.packets.items ++ (left_of (said_at l.tables) (file_of files l.name) l.reader).packets; stop = (left_of (said_at l.tables) (file_of files l.name) l.reader).stop });
      long : length (packet_in l.reader) ≡ count l.fields;
      bound : l.reader.read ≤ 1000000;
      few : length l.packets.items ≤ l.reader.read;
      ready : All (IsReady l.tables) l.packets.items;
      name : lines_name l.reader.lines ≡ l.name;
      agrees : AgreesWith (shelf.files l.shelf) l.reader.lines;
      files : shelf.files l.shelf ≡ shelf.files l.fn.shelf;
      later : NoneFell (shelf.faults l.fn.shelf) (shelf.faults l.shelf);
    }

abbrev pub decreases-loop-reader : goal.decreases-loop-reader
decreases-loop-reader g l = 1000000 - l.reader.read
