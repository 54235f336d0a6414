use Rattle.std.proofs.Common.{◌≡◌, [], drop}
use Rattle.snap_names.specs.Parts.{words_of}
use Rattle.snap_names.specs.Senses.{atoms_behind}
use Rattle.snap_names.proofs.scope.Scope.atoms.Given as goal

-- the atoms so far, and those of the values that are left
abbrev pub invariant-loop-value : goal.invariant-loop-value
invariant-loop-value l = atoms_behind (words_of l.self) l.atoms.items (drop l.value-index l.values) ≡ atoms_behind (words_of l.self) [] l.values
