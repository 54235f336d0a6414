-- If the fact agrees with those left, it agrees with all.
use Rattle.std.specs.Prelude.{All, length}
use Rattle.snap_context.specs.Classes.{IsTest, PairRule}
use Rattle.snap_context.proofs.look.look_one.Given as goal

abbrev pub invariant-loop-other : goal.invariant-loop-other
invariant-loop-other l =
    All (λ f. IsTest (length l.classes) f.test) l.other-iterator.left.now
    × (All (PairRule l.classes l.fact) l.other-iterator.left.now → All (PairRule l.classes l.fact) l.facts)
