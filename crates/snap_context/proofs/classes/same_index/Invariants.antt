-- The classes of the atoms so far are equal.
use Rattle.std.proofs.Common.{◌≡◌, take, map}
use Rattle.snap_context.specs.Classes.{atom_class}
use Rattle.snap_context.proofs.classes.same_index.Given as goal

abbrev pub invariant-loop-i : goal.invariant-loop-i
invariant-loop-i l = map (atom_class l.classes) (take l.i l.first) ≡ map (atom_class l.classes) (take l.i l.second)
