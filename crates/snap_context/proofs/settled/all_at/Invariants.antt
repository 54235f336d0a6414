-- If those left are there, all are.
use Rattle.std.proofs.Common.{map}
use Rattle.std.specs.Prelude.{All, length}
use Rattle.snap_context.specs.Classes.{IsTest, atom_class}
use Rattle.snap_context.specs.Known.{IsAtSpot}
use Rattle.snap_context.proofs.settled.all_at.Given as goal

abbrev pub invariant-loop-fact : goal.invariant-loop-fact
invariant-loop-fact l =
    All (λ f. IsTest (length l.classes) f.test) l.fact-iterator.left.now
    × (All (IsAtSpot l.classes l.var (map (atom_class l.classes) l.index)) l.fact-iterator.left.now → All (IsAtSpot l.classes l.var (map (atom_class l.classes) l.index)) l.facts)
