use Rattle.std.proofs.Common.{◌≡◌, ◌≤◌, take, map}
use Rattle.arrayvec.specs.ArrayVec.{array_vec_len}
use Rattle.snap_core.specs.Arrays.{value_of}
use Rattle.snap_core.proofs.atoms.fill_index.Given as goal

abbrev pub invariant-loop-atom : goal.invariant-loop-atom
invariant-loop-atom l = record {
  numbers : l.index.items ≡ map (λ atom. value_of atom l.packet) (take l.atom-index l.atom-items);
  count : array_vec_len l.index ≡ l.atom-index;
  short : l.atom-index ≤ 8;
}
