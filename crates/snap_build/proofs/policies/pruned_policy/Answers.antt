-- Pruned now, or before.
use Rattle.std.proofs.lemmas.Result.{IfOk-weaker}
use Rattle.snap_build.proofs.Doing.{does_answered}
use Rattle.snap_build.proofs.policies.pruned_policy.Goals as goal

pub returns-clause-does : goal.returns-clause-does
returns-clause-does c =
    IfOk-weaker c.prune.result _ _ (λ r same. does_answered c.args.ctx.now c.args.pol.now c.policy.new.nodes c.prune.new.nodes c.in_ok-d.d r c.in_ok-d.ensures.does same) c.prune.ensures.answer
