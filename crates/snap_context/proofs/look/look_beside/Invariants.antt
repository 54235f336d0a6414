-- If those left agree with the fact, all do.
use Rattle.std.specs.Prelude.{All, length}
use Rattle.snap_context.specs.Classes.{IsTest, PairRule}
use Rattle.snap_context.proofs.look.look_beside.Given as goal

abbrev pub invariant-loop-other : goal.invariant-loop-other
invariant-loop-other l =
    All (λ f. IsTest (length l.classes) f.test) l.other-iterator.left.now
    × (All (λ f. PairRule l.classes f l.fact) l.other-iterator.left.now → All (λ f. PairRule l.classes f l.fact) l.facts)
