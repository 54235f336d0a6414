-- What is pushed so far and what is left are the key.
use Rattle.std.proofs.Common.{◌≡◌, ◌++◌, drop, map}
use Rattle.snap_context.specs.Classes.{atom_class}
use Rattle.snap_context.specs.Known.{spot_key}
use Rattle.snap_context.proofs.known.push_spot.Given as goal

abbrev pub invariant-loop-atom : goal.invariant-loop-atom
invariant-loop-atom l = l.key.items ++ spot_key (map (atom_class l.classes) (drop l.atom-index l.index)) ≡ l.fn.key.items ++ spot_key (map (atom_class l.classes) l.index)
