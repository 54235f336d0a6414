use Rattle.std.proofs.Common.{ap, refl, Ok}
use Rattle.snap_names.specs.Core.{core_test, filter}
use Rattle.snap_names.specs.Senses.{after}
use Rattle.snap_names.proofs.Readings.{HasRead-leaf}
use Rattle.snap_names.proofs.scope.Scope.test_part.Goals as goal

pub returns : goal.returns
returns c = λ lets are. HasRead-leaf _ (filter (core_test c.in_ok-test.test)) c.args.tally.now c.args.tally.now c.leaf.new.self c.leaf.result
    (ap (λ r. after r (λ x. Ok (filter x, c.args.tally.now.arities.items))) c.in_ok-test.ensures.ok) refl c.leaf.ensures.arities c.leaf.ensures.nodes c.leaf.ensures.part
