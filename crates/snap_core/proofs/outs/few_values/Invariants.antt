use Rattle.std.proofs.Common.{◌≡◌, ◌≤◌, take, map}
use Rattle.arrayvec.specs.ArrayVec.{array_vec_len}
use Rattle.snap_core.specs.Arrays.{value_of}
use Rattle.snap_core.proofs.outs.few_values.Given as goal

abbrev pub invariant-loop-atom : goal.invariant-loop-atom
invariant-loop-atom l = record {
  numbers : l.values.items ≡ map (λ p. value_of p.1 l.packet) (take l.atom-index l.parts);
  count : array_vec_len l.values ≡ l.atom-index;
  few : l.atom-index ≤ 8;
}
