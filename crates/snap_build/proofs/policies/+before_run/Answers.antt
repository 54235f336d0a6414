-- A set put in front.
use Rattle.std.proofs.Common.{arith}
use Rattle.snap_diagrams.specs.Picks.{sizes}
use Rattle.snap_core.proofs.Results.{IfOk-both}
use Rattle.snap_build.specs.Parts.{EndsInSet}
use Rattle.snap_build.proofs.Sending.{then_does}
use Rattle.snap_build.proofs.policies.+before_run.Goals as goal

pub set_before-requires-clause-fits : goal.set_before-requires-clause-fits
set_before-requires-clause-fits t c =
    let parts : EndsInSet c.args.pol.now c.in-Some.first.now c.in-Some.second.now = c.in-Some.ensures in
    (parts.fits (sizes c.args.groups.now c.args.ctx.now) c.requires.fits).1

pub before_run-requires : goal.before_run-requires
before_run-requires t c =
    let parts : EndsInSet c.args.pol.now c.in-Some.first.now c.in-Some.second.now = c.in-Some.ensures in
    let less = parts.less in
    (omega (arith, less, c.decreases), ((parts.fits (sizes c.args.groups.now c.args.ctx.now) c.requires.fits).0, (c.requires.free, (c.in_ok-both-in-Some.ensures.diagram, c.in_ok-both-in-Some.ensures.sends))))

pub returns-in_ok-both-in-Some-clause-does : goal.returns-in_ok-both-in-Some-clause-does
returns-in_ok-both-in-Some-clause-does t c =
    let parts : EndsInSet c.args.pol.now c.in-Some.first.now c.in-Some.second.now = c.in-Some.ensures in
    IfOk-both c.before_run.result _ _ _ (λ d small w. then_does c.args.ctx.now c.args.pol.now c.in-Some.first.now c.in-Some.second.now c.args.nodes.now c.set_before.new.nodes c.before_run.new.nodes c.args.last c.in_ok-both-in-Some.both d
    c.requires.free parts small c.in_ok-both-in-Some.ensures.small c.requires.sends c.in_ok-both-in-Some.ensures.does w) c.before_run.ensures.small c.before_run.ensures.does

pub returns-in_ok-both-in-Some-clause-small : goal.returns-in_ok-both-in-Some-clause-small
returns-in_ok-both-in-Some-clause-small t c =
    let parts : EndsInSet c.args.pol.now c.in-Some.first.now c.in-Some.second.now = c.in-Some.ensures in
    IfOk-both c.before_run.result _ _ _ (λ d small w. parts.small small c.in_ok-both-in-Some.ensures.small) c.before_run.ensures.small c.before_run.ensures.small
