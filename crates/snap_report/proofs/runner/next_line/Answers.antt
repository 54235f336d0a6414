use Rattle.std.proofs.Common.{inl, length, subst, ◌∙◌}
use Rattle.std.proofs.lemmas.Result.{err_from_is_err_and}
use Rattle.snap_io.specs.Files.{file_of}
use Rattle.snap_io.specs.LineReaders.{lines_name}
use Rattle.snap_report.specs.Reading.{LeavesLine, left_for}
use Rattle.snap_report.proofs.Running.{comes-part, comes-written, follows}
use Rattle.snap_report.proofs.StepLemmas.{where_told, whatever_told}
use Rattle.snap_report.proofs.runner.next_line.Goals as goal

pub returns-in_err-write_some-clause-follows : goal.returns-in_err-write_some-clause-follows
returns-in_err-write_some-clause-follows g c =
    let out = err_from_is_err_and c.from_residual.result c.from_residual.ensures.1 in
    whatever_told (g.S.Shelf.files c.args.shelf.now) _ (λ files first all start same came.
    let m = g.M.Machine in
    let reader = c.args.reader.now in
    let left = left_for (m.fields first) (m.accepts first) (file_of files (lines_name reader.lines)) reader in
    let before = g.K.Sink.taken c.args.sink.now in
    let now = g.K.Sink.taken c.write_some.new.sink in
    rw out.1 (rw out.2 (inl (comes-part (m.stands first) all left c.args.machine.now start before c.args.out.now.text.items came now c.in_err-write_some.ensures.puts))))

pub returns-clause-follows : goal.returns-clause-follows
returns-clause-follows g c =
    where_told (g.S.Shelf.files c.args.shelf.now) _ _ (λ files leaves first all start same came.
    let m = g.M.Machine in
    let reader = c.args.reader.now in
    let file = file_of files (lines_name reader.lines) in
    let left = left_for (m.fields first) (m.accepts first) file reader in
    let before = g.K.Sink.taken c.args.sink.now in
    let now = g.K.Sink.taken c.write_some.new.sink in
    let waiting = c.write_some.new.self.text.items in
    follows (m.stands first) all (m.reports first) (m.refuses first) (m.fields first) (m.accepts first) file reader c.next.new.self c.args.machine.now start now waiting
    (comes-written (m.stands first) all left c.args.machine.now start before c.args.out.now.text.items came now waiting c.in_ok-write_some.ensures.puts)
    c.next.result (subst (λ f. LeavesLine f (m.accepts first) (length came.packets) file reader c.next.new.self c.next.result) (c.fields.ensures ∙ same) (leaves (m.accepts first) (length came.packets))))
    c.next.ensures.leaves
