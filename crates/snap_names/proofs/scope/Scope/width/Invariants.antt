use Rattle.std.proofs.Common.{◌≡◌, ◌+◌, ◌*◌, ◌≤◌, drop}
use Rattle.snap_names.specs.Parts.{words_of}
use Rattle.snap_names.specs.Senses.{width}
use Rattle.snap_names.proofs.scope.Scope.width.Given as goal

-- the atoms so far, and those of the values that are left
abbrev pub invariant-loop-value : goal.invariant-loop-value
invariant-loop-value l = record {
  sum : l.atoms + width (words_of l.self) (drop l.value-index l.values) ≡ width (words_of l.self) l.values;
  bound : l.atoms ≤ 2 * l.value-index;
}
