-- The rest decides.
use Rattle.std.proofs.Common.{◌≡◌, drop, map}
use Rattle.snap_context.specs.Classes.{atom_class}
use Rattle.snap_context.specs.Known.{are_within}
use Rattle.snap_context.proofs.rooted.index_within.Given as goal

abbrev pub invariant-loop-atom : goal.invariant-loop-atom
invariant-loop-atom l = are_within l.roots (map (atom_class l.classes) (drop l.atom-index l.index)) ≡ are_within l.roots (map (atom_class l.classes) l.index)
