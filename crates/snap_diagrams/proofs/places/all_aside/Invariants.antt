-- If those left do, all do.
use Rattle.std.proofs.Common.{length}
use Rattle.std.specs.Prelude.{All}
use Rattle.snap_context.specs.Classes.{IsTest}
use Rattle.snap_diagrams.specs.Places.{StandsAside}
use Rattle.snap_diagrams.proofs.places.all_aside.Given as goal

abbrev pub invariant-loop-fact : goal.invariant-loop-fact
invariant-loop-fact l =
    All (λ f. IsTest (length l.ctx.classes) f.test) l.fact-iterator.left.now
    × (All (StandsAside l.groups.ranks l.ctx.classes l.bound l.arrays l.test) l.fact-iterator.left.now → All (StandsAside l.groups.ranks l.ctx.classes l.bound l.arrays l.test) l.facts)
