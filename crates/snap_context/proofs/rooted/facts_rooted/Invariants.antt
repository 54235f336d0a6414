-- If those left fall apart, all do.
use Rattle.std.specs.Prelude.{All, length}
use Rattle.snap_context.specs.Classes.{IsTest}
use Rattle.snap_context.specs.Known.{IsRooted}
use Rattle.snap_context.proofs.rooted.facts_rooted.Given as goal

abbrev pub invariant-loop-fact : goal.invariant-loop-fact
invariant-loop-fact l =
    All (λ f. IsTest (length l.classes) f.test) l.fact-iterator.left.now
    × (All (IsRooted l.classes l.roots l.settled) l.fact-iterator.left.now → All (IsRooted l.classes l.roots l.settled) l.facts)
