use Rattle.std.proofs.Common.{◌≡◌, Some, rules}
use Rattle.std.proofs.lemmas.Result.{IfOk-weaker}
use Rattle.snap_runs.specs.declared.event.Instruction.TheVariants as order
use Rattle.snap_runs.specs.Runner.{HasDone, HasInjected, HasStepped}
use Rattle.snap_runs.specs.Schedules.{order_by}
use Rattle.snap_runs.proofs.Running.{done-inject, done-skip, done-step}
use Rattle.snap_runs.proofs.runner.obey.Goals as goal

pub returns-in-Some-Skip-clause-done : goal.returns-in-Some-Skip-clause-done
returns-in-Some-Skip-clause-done g c =
    let p = g.P.Playable in
    let e : order_by c.args.line.now ≡ Some order.Skip = first_of (cc, search rules) in
    done-skip p.net p.leads p.begin p.plays p.left c.args.line.now c.args.play.now e

pub returns-in-Some-Inject-clause-done : goal.returns-in-Some-Inject-clause-done
returns-in-Some-Inject-clause-done g c =
    let p = g.P.Playable in
    let old = c.args.play.now in
    let new = c.inject.new.self in
    let e : order_by c.args.line.now ≡ Some order.Inject = first_of (cc, search rules) in
    IfOk-weaker c.inject.result (HasInjected p.leads p.plays p.left old new) (HasDone p.net p.leads p.begin p.plays p.left c.args.line.now old new) (done-inject p.net p.leads p.begin p.plays p.left c.args.line.now old new e) c.inject.ensures.injected

pub returns-in-Some-Step-clause-done : goal.returns-in-Some-Step-clause-done
returns-in-Some-Step-clause-done g c =
    let p = g.P.Playable in
    let place = c.in-Some-Step.place in
    let old = c.args.play.now in
    let new = c.step.new.self in
    let e : order_by c.args.line.now ≡ Some (order.Step place) = first_of (cc, search rules) in
    IfOk-weaker c.step.result (HasStepped p.leads p.plays p.left p.net place old new) (HasDone p.net p.leads p.begin p.plays p.left c.args.line.now old new) (done-step p.net p.leads p.begin p.plays p.left c.args.line.now place old new e) c.step.ensures.stepped
