-- The numbers so far are of nodes.
use Rattle.std.proofs.Common.{◌<◌, length}
use Rattle.std.specs.Prelude.{All}
use Rattle.snap_diagrams.proofs.reach.reach_from.Given as goal

abbrev pub invariant-loop-root : goal.invariant-loop-root
invariant-loop-root l = All (λ d. d < length l.nodes) l.reached.ids.items
