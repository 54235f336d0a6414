-- A run of sets, or a policy pruned.
use Rattle.snap_diagrams.specs.Picks.{sizes}
use Rattle.snap_core.proofs.Results.{IfOk-both}
use Rattle.snap_build.specs.Parts.{EndsInSet}
use Rattle.snap_build.proofs.Sending.{sends_set, then_part}
use Rattle.snap_build.proofs.policies.live_policy.Goals as goal

pub policy-requires-clause-fits : goal.policy-requires-clause-fits
policy-requires-clause-fits c =
    let parts : EndsInSet c.args.pol.now c.in-Some.first.now c.in-Some.second.now = c.in-Some.ensures in
    (parts.fits (sizes c.args.groups.now c.args.ctx.now) c.requires.fits).1

pub before_run-requires-clause-fits : goal.before_run-requires-clause-fits
before_run-requires-clause-fits c =
    let parts : EndsInSet c.args.pol.now c.in-Some.first.now c.in-Some.second.now = c.in-Some.ensures in
    (parts.fits (sizes c.args.groups.now c.args.ctx.now) c.requires.fits).0

pub before_run-requires-clause-sends : goal.before_run-requires-clause-sends
before_run-requires-clause-sends c =
    let parts : EndsInSet c.args.pol.now c.in-Some.first.now c.in-Some.second.now = c.in-Some.ensures in
    sends_set c.args.ctx.now c.in-Some.second.now c.policy.new.nodes c.in_ok-last-in-Some.last parts.set c.in_ok-last-in-Some.ensures.does

pub returns-in_ok-last-in-Some-clause-does : goal.returns-in_ok-last-in-Some-clause-does
returns-in_ok-last-in-Some-clause-does c =
    let parts : EndsInSet c.args.pol.now c.in-Some.first.now c.in-Some.second.now = c.in-Some.ensures in
    IfOk-both c.before_run.result _ _ _ (λ d small w. then_part c.args.ctx.now c.args.pol.now c.in-Some.first.now c.in-Some.second.now c.policy.new.nodes c.before_run.new.nodes c.in_ok-last-in-Some.last d
    c.requires.free parts small c.in_ok-last-in-Some.ensures.does w) c.before_run.ensures.small c.before_run.ensures.does
