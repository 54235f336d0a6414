-- Leaves as lists of numbers.
use Rattle.std.specs.Prelude.{ℕ, List, [], ◌∷◌, ◌++◌}
use Rattle.snap_core.specs.declared.policy.Atom.{Atom}
use Rattle.snap_core.specs.declared.policy.Op.{Op}
use Rattle.snap_core.specs.declared.policy.Op.TheVariants.{Put, Add}
use Rattle.snap_core.specs.declared.policy.Update.{Update}
use Rattle.snap_diagrams.specs.Codes.{atom_code, index_code}
use Rattle.snap_diagrams.specs.declared.leaf.Leaf.{Leaf}
use Rattle.snap_diagrams.specs.declared.leaf.Leaf.TheVariants.{Race, Go as Goes}

-- before each element stands a 1, and behind the last a 0
abbrev pub out_code : List (ℕ × Atom) → List ℕ
out_code [] = 0 ∷ []
out_code (p ∷ ps) = 1 ∷ p.0 ∷ atom_code p.1 ++ out_code ps

abbrev pub outs_code : List (List (ℕ × Atom)) → List ℕ
outs_code [] = 0 ∷ []
outs_code (o ∷ os) = 1 ∷ out_code o ++ outs_code os

abbrev pub op_code : Op → List ℕ
op_code (Put a) = 0 ∷ atom_code a
op_code (Add n) = 1 ∷ n ∷ []

abbrev pub ups_code : List Update → List ℕ
ups_code [] = 0 ∷ []
ups_code (u ∷ us) = 1 ∷ u.var ∷ index_code u.index ++ (op_code u.op ++ ups_code us)

abbrev pub leaf_code : Leaf → List ℕ
leaf_code Race = 0 ∷ []
leaf_code (Goes g) = 1 ∷ g.reads ∷ g.writes ∷ outs_code g.outs ++ ups_code g.ups
