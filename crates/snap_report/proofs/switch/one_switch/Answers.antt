use Rattle.std.proofs.Common.{ap, refl, subst, sym, ◌∙◌}
use Rattle.std.proofs.lemmas.Result.{err_from_is_err_and}
use Rattle.snap_core.specs.Programs.{IsBounded}
use Rattle.snap_io.specs.Files.{file_of}
use Rattle.snap_report.specs.OneSwitch.{WritesReport}
use Rattle.snap_report.proofs.StepLemmas.{whatever_told, where_told}
use Rattle.snap_report.proofs.SwitchLemmas.{stands-first, writes-none, writes-report}
use Rattle.snap_report.proofs.switch.one_switch.Goals as goal

pub returns-in_err-switch-clause-report : goal.returns-in_err-switch-clause-report
returns-in_err-switch-clause-report g c =
    let out = err_from_is_err_and c.from_residual.result c.from_residual.ensures.1 in
    whatever_told (g.S.Shelf.files c.args.shelf.now) _ (λ files. rw out.1 (rw out.2 (writes-none c.args.program.now (file_of files c.args.packets.now) (g.K.Sink.taken c.args.sink.now))))

pub run_over-requires-clause-ready : goal.run_over-requires-clause-ready
run_over-requires-clause-ready g c =
    let made = c.in_ok-switch.ensures in
    (subst IsBounded (sym made.program) c.requires, made.laid ∙ ap (λ p. p.body) (sym made.program))

pub returns-clause-report : goal.returns-clause-report
returns-clause-report g c =
    let switch = c.in_ok-switch.switch in
    let before = g.K.Sink.taken c.args.sink.now in
    let now = g.K.Sink.taken c.run_over.new.sink in
    where_told (g.S.Shelf.files c.args.shelf.now) _ _ (λ files writes.
    let file = file_of files c.args.packets.now in
    subst (λ program. WritesReport program file c.run_over.result before now) c.in_ok-switch.ensures.program
    (writes-report switch file c.run_over.result before now (writes switch (stands-first switch c.in_ok-switch.ensures.arrays c.in_ok-switch.ensures.number) refl)))
    c.run_over.ensures.report
