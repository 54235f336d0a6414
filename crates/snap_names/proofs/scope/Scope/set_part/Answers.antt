use Rattle.std.proofs.Common.{ap, refl, Ok}
use Rattle.snap_names.specs.Core.{core_policy}
use Rattle.snap_names.specs.Senses.{after}
use Rattle.snap_names.proofs.Readings.{HasRead-leaf}
use Rattle.snap_names.proofs.scope.Scope.set_part.Goals as goal

pub returns : goal.returns
returns c = λ lets are. HasRead-leaf _ (core_policy c.in_ok-set.set) c.args.tally.now c.args.tally.now c.leaf.new.self c.leaf.result
    (ap (λ r. after r (λ p. Ok (p, c.args.tally.now.arities.items))) c.in_ok-set.ensures.ok) refl c.leaf.ensures.arities c.leaf.ensures.nodes c.leaf.ensures.part
