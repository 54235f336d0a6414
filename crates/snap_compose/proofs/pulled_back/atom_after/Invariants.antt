-- What the parts so far set, and the parts left.
use Rattle.std.proofs.Common.{◌≡◌, drop}
use Rattle.snap_compose.specs.PulledBack.{atom_from, atom_after}
use Rattle.snap_compose.proofs.pulled_back.atom_after.Given as goal

abbrev pub invariant-loop-part : goal.invariant-loop-part
invariant-loop-part l = atom_from l.atom (drop l.part-index l.part-items) l.comp ≡ atom_after l.out l.comp
