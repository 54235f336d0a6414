-- Lists of nodes in which no node stands twice and children stand before their parents.
use Rattle.std.specs.Prelude.{◌≡◌, ◌≢◌, ℕ, ◌<◌, ◌≤◌, List, [], ◌∷◌, ◌++◌, length, Some, slice_get}
use Rattle.snap_core.specs.Cells.{Cells, cell}
use Rattle.snap_diagrams.specs.declared.node.Node.{Node}
use Rattle.snap_diagrams.specs.declared.node.Node.TheVariants.{Ask, Leaf}
use Rattle.snap_diagrams.specs.Codes.{node_code}

-- a node that may stand at the number d: its ways are lower, and differ
abbrev pub IsLower : {L : Type 0} → ℕ → Node L → Type 0
IsLower d (Ask t y n) = (y < d) × (n < d) × (y ≢ n)
IsLower d (Leaf l) = Unit {0}

pub record IsArena {L : Type 0} (ns : List (Node L)) : Type 0 where
  pub lower : (d : ℕ) (n : Node L) → slice_get ns d ≡ Some n → IsLower d n
  pub once : (d e : ℕ) (n : Node L) → slice_get ns d ≡ Some n → slice_get ns e ≡ Some n → d ≡ e

-- the new list is the old one with more at its end
pub record ExtendsArena {L : Type 0} (old new : List (Node L)) : Type 0 where
  pub more : List (Node L)
  pub is : new ≡ old ++ more

-- the number d is that of the node n: the old one where it was there, else the list's next
pub record IsNoted {L : Type 0} (old : List (Node L)) (n : Node L) (new : List (Node L)) (d : ℕ) : Type 0 where
  pub at : slice_get new d ≡ Some n
  pub known : d < length old → new ≡ old
  pub next : length old ≤ d → (new ≡ old ++ n ∷ []) × (d ≡ length old)

-- a node at its number
pub record StandsAt {L : Type 0} (code : L → List ℕ) (ns : List (Node L)) (d : ℕ) (q : List ℕ) : Type 0 where
  pub node : Node L
  pub at : slice_get ns d ≡ Some node
  pub is : node_code code node ≡ q

-- the nodes stand before their parents, and the cells tell the number of each by its code
pub record IsNumbered {L : Type 0} (code : L → List ℕ) (ns : List (Node L)) (numbers : Cells) : Type 0 where
  pub lower : (d : ℕ) (n : Node L) → slice_get ns d ≡ Some n → IsLower d n
  pub found : (q : List ℕ) (d : ℕ) → cell numbers q ≡ Some d → StandsAt code ns d q
  pub all : (d : ℕ) (n : Node L) → slice_get ns d ≡ Some n → cell numbers (node_code code n) ≡ Some d
