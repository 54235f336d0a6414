-- A set, and then more.
use Rattle.std.proofs.lemmas.Result.{IfOk-weaker}
use Rattle.snap_diagrams.proofs.Shared.{argument_kept}
use Rattle.snap_build.proofs.Sending.{sends_both, turn_does}
use Rattle.snap_build.proofs.policies.set_before.Goals as goal

pub chain-requires-clause-d : goal.chain-requires-clause-d
chain-requires-clause-d c = argument_kept c.args.groups.now c.args.ctx.now c.args.nodes.now c.policy.new.nodes c.args.last c.policy.ensures.extends_arena c.requires.last

pub returns-clause-does : goal.returns-clause-does
returns-clause-does c =
    IfOk-weaker c.chain.result _ _ (λ d w. turn_does c.args.ctx.now c.args.set.now c.args.nodes.now c.policy.new.nodes c.chain.new.nodes c.in_ok-first.first c.args.last d
    c.policy.ensures.extends_arena c.requires.last.below c.in_ok-first.ensures.does w) c.chain.ensures.outcome

pub returns-clause-sends : goal.returns-clause-sends
returns-clause-sends c =
    IfOk-weaker c.chain.result _ _ (λ d w. sends_both c.args.ctx.now c.args.set.now c.args.nodes.now c.chain.new.nodes c.args.last d c.requires.free c.requires.set c.in_ok-first.ensures.small c.requires.sends
    (turn_does c.args.ctx.now c.args.set.now c.args.nodes.now c.policy.new.nodes c.chain.new.nodes c.in_ok-first.first c.args.last d c.policy.ensures.extends_arena c.requires.last.below c.in_ok-first.ensures.does w)) c.chain.ensures.outcome
