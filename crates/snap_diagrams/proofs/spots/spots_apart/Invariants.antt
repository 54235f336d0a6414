-- The places so far are apart.
use Rattle.std.proofs.Common.{take}
use Rattle.snap_diagrams.specs.Spots.{SpotsApart}
use Rattle.snap_diagrams.proofs.spots.spots_apart.Given as goal

abbrev pub invariant-loop-i : goal.invariant-loop-i
invariant-loop-i l = SpotsApart l.values (take l.i l.spots)
