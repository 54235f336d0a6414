-- When leaves and diagrams do the same.
use Rattle.std.specs.Prelude.{◌≡◌, ℕ, List, [], ◌∷◌}
use Rattle.snap_core.specs.Arrays.{Arrays}
use Rattle.snap_core.specs.Cells.{Cells}
use Rattle.snap_core.specs.Inputs.{IsStore, IsPacket}
use Rattle.snap_context.specs.declared.fact.Fact.{Fact}
use Rattle.snap_context.specs.Meets.{Meets}
use Rattle.snap_diagrams.specs.declared.node.Node.{Node}
use Rattle.snap_diagrams.specs.Memos.{Remembers}
use Rattle.snap_diagrams.specs.declared.leaf.Leaf.{Leaf}
use Rattle.snap_diagrams.specs.Diagrams.{Diagram, diagram, walk}
use Rattle.snap_diagrams.specs.Leaves.{answer_of, outcome_of}
use Rattle.snap_equal.specs.declared.sure.Memos.{Memos}
use Rattle.snap_equal.specs.Same.{SameOutcome}
use Rattle.snap_equal.specs.Weaker.{facts_code}

abbrev pub LeavesDoSame : Leaf → Leaf → Arrays → List ℕ → Type 0
LeavesDoSame x y m k = SameOutcome (outcome_of (answer_of x k) m) (outcome_of (answer_of y k) m)

abbrev pub DiagramsDoSame : Diagram → Diagram → Arrays → List ℕ → Type 0
DiagramsDoSame d e m k = LeavesDoSame (walk d m k) (walk e m k) m k

-- they do with every store, and every packet of so many components
abbrev pub AlwaysDoSame : ℕ → Diagram → Diagram → Type 0
AlwaysDoSame comps d e = (m : Arrays) (k : List ℕ) → IsStore m → IsPacket comps k → DiagramsDoSame d e m k

-- a 1 for two numbers says that their diagrams always do the same
abbrev pub PairKnown : ℕ → List (Node Leaf) → List (Node Leaf) → List ℕ → ℕ → Type 0
PairKnown comps ns os q d = (x y : ℕ) → q ≡ x ∷ y ∷ [] → d ≡ 1 → AlwaysDoSame comps (diagram ns x) (diagram os y)

abbrev pub ArePairsKnown : ℕ → List (Node Leaf) → List (Node Leaf) → Cells → Type 0
ArePairsKnown comps ns os = Remembers (PairKnown comps ns os)

-- they do with every store and packet that meet facts
abbrev pub DoSameWhere : ℕ → List Fact → Diagram → Diagram → Type 0
DoSameWhere comps fs d e = (m : Arrays) (k : List ℕ) → IsStore m → IsPacket comps k → Meets fs m k → DiagramsDoSame d e m k

-- a 1 for two numbers and facts says that their diagrams do the same where the facts are met
abbrev pub PairMet : ℕ → List (Node Leaf) → List (Node Leaf) → List ℕ → ℕ → Type 0
PairMet comps ns os q d = (x y : ℕ) (fs : List Fact) → q ≡ x ∷ y ∷ facts_code fs
    → d ≡ 1 → DoSameWhere comps fs (diagram ns x) (diagram os y)

abbrev pub ArePairsMet : ℕ → List (Node Leaf) → List (Node Leaf) → Cells → Type 0
ArePairsMet comps ns os = Remembers (PairMet comps ns os)

-- what is remembered of pairs is so
pub record AreRemembered (comps : ℕ) (ns os : List (Node Leaf)) (memos : Memos) : Type 0 where
  pub agreed : ArePairsKnown comps ns os memos.agreed
  pub met : ArePairsMet comps ns os memos.met
