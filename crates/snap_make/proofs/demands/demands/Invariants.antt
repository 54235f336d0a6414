-- The numbers so far.
use Rattle.std.proofs.Common.{length}
use Rattle.std.specs.Prelude.{slice_get}
use Rattle.snap_make.specs.Demands.{AreDemanded}
use Rattle.snap_make.proofs.demands.demands.Given as goal

abbrev pub invariant-loop-number : goal.invariant-loop-number
invariant-loop-number l = AreDemanded l.tables (slice_get l.bodies) (length l.bodies) l.number l.marks.items
