use Rattle.snap_names.specs.Core.{core_policy}
use Rattle.snap_names.proofs.Readings.{HasRead-leaf}
use Rattle.snap_names.proofs.scope.Scope.array_add_part.Goals as goal

pub returns : goal.returns
returns c = λ lets are. HasRead-leaf _ (core_policy c.in_ok-policy.policy) c.args.tally.now c.array_add.new.tally c.leaf.new.self c.leaf.result c.in_ok-policy.ensures.policy c.array_add.ensures.nodes c.leaf.ensures.arities c.leaf.ensures.nodes c.leaf.ensures.part
