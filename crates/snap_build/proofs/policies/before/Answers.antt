-- A policy, and then more.
use Rattle.std.proofs.lemmas.Result.{IfOk-weaker}
use Rattle.snap_diagrams.proofs.Shared.{argument_kept}
use Rattle.snap_build.proofs.Sending.{turn_does}
use Rattle.snap_build.proofs.policies.before.Goals as goal

pub sequence-requires-clause-d : goal.sequence-requires-clause-d
sequence-requires-clause-d c = argument_kept c.args.groups.now c.args.ctx.now c.args.nodes.now c.policy.new.nodes c.args.last c.policy.ensures.extends_arena c.requires.last

pub returns-clause-does : goal.returns-clause-does
returns-clause-does c =
    IfOk-weaker c.sequence.result _ _ (λ d w. turn_does c.args.ctx.now c.args.pol.now c.args.nodes.now c.policy.new.nodes c.sequence.new.nodes c.in_ok-d.d c.args.last d
    c.policy.ensures.extends_arena c.requires.last.below c.in_ok-d.ensures.does w) c.sequence.ensures.outcome
