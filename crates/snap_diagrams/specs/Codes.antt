-- Atoms, terms, tests and nodes as lists of numbers.
use Rattle.std.specs.Prelude.{ℕ, List, [], ◌∷◌, ◌+◌, ◌++◌}
use Rattle.snap_core.specs.declared.policy.Atom.{Atom}
use Rattle.snap_core.specs.declared.policy.Atom.TheVariants.{Num as Number, Comp}
use Rattle.snap_core.specs.declared.policy.Test.{Test}
use Rattle.snap_core.specs.declared.policy.Test.TheVariants.{Value, Equal, State}
use Rattle.snap_core.specs.Terms.{term_code}
use Rattle.snap_diagrams.specs.declared.node.Node.{Node}
use Rattle.snap_diagrams.specs.declared.node.Node.TheVariants.{Ask, Leaf}

-- a component's has one number, since most atoms are components
abbrev pub atom_code : Atom → List ℕ
atom_code (Number n) = 1 ∷ n ∷ []
atom_code (Comp c) = (c + 2) ∷ []

-- a 0 ends an index
abbrev pub index_code : List Atom → List ℕ
index_code [] = 0 ∷ []
index_code (a ∷ ix) = atom_code a ++ index_code ix

abbrev pub test_code : Test → List ℕ
test_code (Value c n) = 0 ∷ c ∷ n ∷ []
test_code (Equal l r p) = 1 ∷ l ∷ r ∷ p ∷ []
test_code (State v ix t) = (v + 2) ∷ index_code ix ++ term_code t

-- a node's, by its leaf's
abbrev pub node_code : {L : Type 0} → (L → List ℕ) → Node L → List ℕ
node_code code (Ask t y n) = 1 ∷ y ∷ n ∷ test_code t
node_code code (Leaf l) = 0 ∷ code l
