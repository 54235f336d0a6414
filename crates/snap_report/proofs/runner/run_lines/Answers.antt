use Rattle.std.proofs.Common.{◌≡◌, [], None, Ok, rules, refl, subst, ◌∙◌, arith}
use Rattle.snap_io.specs.Files.{file_of}
use Rattle.snap_io.specs.LineReaders.{lines_name}
use Rattle.snap_report.specs.Reading.{left_for, spelled_where}
use Rattle.snap_report.specs.Runner.{Comes, Follows}
use Rattle.snap_report.specs.Spelled.{ended, stops}
use Rattle.snap_report.proofs.Readers.{left-first}
use Rattle.snap_report.proofs.Running.{comes-first, end-put}
use Rattle.snap_report.proofs.StepLemmas.{told-on, where_told, whatever_told}
use Rattle.snap_report.proofs.runner.run_lines.Goals as goal

pub loop-line-init : goal.loop-line-init
loop-line-init g c =
    let m = g.M.Machine in
    let reader = c.args.reader.now in
    let none = c.requires.none in
    record {
      comes = whatever_told (g.S.Shelf.files c.args.shelf.now) _ (λ files first stood same.
          let file = file_of files (lines_name reader.lines) in
          comes-first (m.stands first) (spelled_where (m.fields first) (m.accepts first) file) (left_for (m.fields first) (m.accepts first) file reader) (left-first (m.fields first) (m.accepts first) file reader c.requires.read c.requires.given)
          c.args.machine.now stood (g.K.Sink.taken c.args.sink.now) c.args.out.now.text.items c.requires.text);
      ready = c.requires.ready;
      count = omega (arith, none);
      fields = refl;
      long = c.requires.long;
      name = refl;
      agrees = c.requires.agrees;
      files = refl;
      later = λ name. omega arith;
      sink_later = omega arith;
    }

pub returns-clause-closes : goal.returns-clause-closes
returns-clause-closes g c =
    let m = g.M.Machine in
    let start = g.K.Sink.taken c.args.sink.now in
    let loop = c.loop-line in
    let last = c.next_line.new in
    let now = g.K.Sink.taken last.sink in
    let waiting = last.out.text.items in
    let none : c.in_ok-line.field-0 ≡ None = first_of (cc, search rules) in
    where_told (g.S.Shelf.files c.args.shelf.now) _ _ (λ files follows first stood same.
    let file = file_of files (lines_name c.args.reader.now.lines) in
    let all = spelled_where (m.fields first) (m.accepts first) file in
    let came = subst (λ o. Follows (m.stands first) (m.reports first) (m.refuses first) all (m.fields first) (m.accepts first) file last.reader loop.machine start now waiting (Ok o)) none (follows first stood same) in
    end-put (m.stands first) all (λ before. stops ended) loop.machine start now waiting came (m.reports first) (m.refuses first) refl c.put_end.result (g.K.Sink.taken c.put_end.new.sink) c.put_end.new.out.text.items
    (c.put_end.ensures.ends first came.packets came.text came.stood))
    (told-on (g.S.Shelf.files c.args.shelf.now) (g.S.Shelf.files loop.shelf) (lines_name c.args.reader.now.lines) (lines_name loop.reader.lines)
    (λ file. (first : _) → m.stands first [] [] c.args.machine.now → m.fields c.args.machine.now ≡ m.fields first →
    Comes (m.stands first) (spelled_where (m.fields first) (m.accepts first) file) (left_for (m.fields first) (m.accepts first) file loop.reader) loop.machine start (g.K.Sink.taken loop.sink) loop.out.text.items)
    (λ file. (first : _) → m.stands first [] [] c.args.machine.now → m.fields c.args.machine.now ≡ m.fields first →
    Follows (m.stands first) (m.reports first) (m.refuses first) (spelled_where (m.fields first) (m.accepts first) file) (m.fields first) (m.accepts first) file last.reader loop.machine start now waiting (Ok c.in_ok-line.field-0))
    loop.invariant.files loop.invariant.name loop.invariant.comes
    (where_told (g.S.Shelf.files loop.shelf) _ _ (λ files step came first stood same. step first (spelled_where (m.fields first) (m.accepts first) (file_of files (lines_name loop.reader.lines))) start (loop.invariant.fields ∙ same) (came first stood same)) c.in_ok-line.ensures.follows))
