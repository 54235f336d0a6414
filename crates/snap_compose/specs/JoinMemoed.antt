-- What a memo of one call remembers. Where it goes by one number, the second is 0.
use Rattle.std.specs.Prelude.{ℕ, ◌<◌, List, [], ◌∷◌, length, ⊤}
use Rattle.snap_core.specs.Cells.{Cells}
use Rattle.snap_dep.specs.Ranks.{Grouping}
use Rattle.snap_context.specs.View.{View}
use Rattle.snap_diagrams.specs.declared.node.Node.{Node}
use Rattle.snap_diagrams.specs.Memos.{Remembers}
use Rattle.snap_diagrams.specs.declared.leaf.Leaf.{Leaf}
use Rattle.snap_diagrams.specs.Diagrams.{diagram}
use Rattle.snap_diagrams.specs.Bounds.{Sizes}
use Rattle.snap_diagrams.specs.Picks.{IsWellFormedDiagram, sizes}
use Rattle.snap_compose.specs.declared.leaves.How.{How}
use Rattle.snap_compose.specs.Joined.{IsJoined}
use Rattle.snap_compose.specs.Predicates.{IsNegated}
use Rattle.snap_compose.specs.Chosen.{IsChosen}

-- the number d is that of two diagrams combined
pub record IsCombined (ranks : List ℕ) (s : Sizes) (how : How) (ns : List (Node Leaf)) (a b d : ℕ) : Type 0 where
  pub first : a < length ns
  pub second : b < length ns
  pub number : d < length ns
  pub joined : IsJoined ranks s how (diagram ns a) (diagram ns b) (diagram ns d)

abbrev pub CombinedFor : List ℕ → Sizes → How → List (Node Leaf) → List ℕ → ℕ → Type 0
CombinedFor ranks s how ns (a ∷ b ∷ []) d = IsCombined ranks s how ns a b d
CombinedFor ranks s how ns q d = ⊤

-- what is asked for two diagrams combined: both fit, and the memo is that of this way to combine
pub record IsAskedJoin (g : Grouping) (v : View) (how : How) (ns : List (Node Leaf)) (memo : Cells) (a b : ℕ) : Type 0 where
  pub first : IsWellFormedDiagram g v ns a
  pub second : IsWellFormedDiagram g v ns b
  pub known : Remembers (CombinedFor g.ranks (sizes g v) how ns) memo

-- the number d is that of a predicate turned round
pub record IsTurned (ns : List (Node Leaf)) (a d : ℕ) : Type 0 where
  pub first : a < length ns
  pub number : d < length ns
  pub negated : IsNegated (diagram ns a) (diagram ns d)

abbrev pub TurnedFor : List (Node Leaf) → List ℕ → ℕ → Type 0
TurnedFor ns (a ∷ b ∷ []) d = IsTurned ns a d
TurnedFor ns q d = ⊤

-- the number d is that of the choice between p and q
pub record IsDecided (ranks : List ℕ) (s : Sizes) (ns : List (Node Leaf)) (x p q d : ℕ) : Type 0 where
  pub test : x < length ns
  pub yes : p < length ns
  pub no : q < length ns
  pub number : d < length ns
  pub chosen : IsChosen ranks s (diagram ns x) (diagram ns p) (diagram ns q) (diagram ns d)

abbrev pub DecidedFor : List ℕ → Sizes → List (Node Leaf) → ℕ → ℕ → List ℕ → ℕ → Type 0
DecidedFor ranks s ns p q (x ∷ y ∷ []) d = IsDecided ranks s ns x p q d
DecidedFor ranks s ns p q k d = ⊤

-- what is asked for a choice: the three diagrams fit, and the memo is that of choices between these two
pub record IsAskedChoice (g : Grouping) (v : View) (ns : List (Node Leaf)) (memo : Cells) (x p q : ℕ) : Type 0 where
  pub test : IsWellFormedDiagram g v ns x
  pub yes : IsWellFormedDiagram g v ns p
  pub no : IsWellFormedDiagram g v ns q
  pub known : Remembers (DecidedFor g.ranks (sizes g v) ns p q) memo
