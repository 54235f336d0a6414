use Rattle.std.proofs.Common.{◌≡◌, length, refl, subst, sym}
use Rattle.snap_report.specs.Reading.{with_line}
use Rattle.snap_report.specs.Runner.{Comes}
use Rattle.snap_report.proofs.Running.{comes-as, took}
use Rattle.snap_report.proofs.runner.take_line.Goals as goal

pub returns-in-Skip-clause-comes : goal.returns-in-Skip-clause-comes
returns-in-Skip-clause-comes g c = λ first all rest start now came.
    let m = g.M.Machine in
    let line = with_line (m.accepts first) c.args.number c.args.packet.now in
    comes-as (m.stands first) all (line c.args.line rest) c.args.machine.now start now c.args.out.now.text.items came rest
    (subst (λ l. line l rest (length came.packets) ≡ rest (length came.packets)) (sym c.in-Skip.is) refl)

pub returns-in-Inject-clause-comes : goal.returns-in-Inject-clause-comes
returns-in-Inject-clause-comes g c = λ first all rest start now came.
    let m = g.M.Machine in
    let here = subst (λ l. Comes (m.stands first) all (with_line (m.accepts first) c.args.number c.args.packet.now l rest) c.args.machine.now start now c.args.out.now.text.items) c.in-Inject.is came in
    took (m.stands first) all (m.reports first) (m.refuses first) (m.accepts first) c.args.number c.in-Inject.port c.args.packet.now rest c.args.machine.now c.take.new.self start now c.args.out.now.text.items c.take.new.text.items here
    c.take.result (c.take.ensures.takes first here.packets here.text here.stood)
