-- Diagrams of predicates.
use Rattle.std.specs.Prelude.{◌≡◌, ◌⊎◌, ℕ, Bool, true, false, Option, Some, None, List, [], ◌∷◌, bit_or, if◌then◌else◌}
use Rattle.snap_core.specs.Arrays.{Arrays}
use Rattle.snap_core.specs.Packets.{no_packets, with_packet}
use Rattle.snap_diagrams.specs.declared.node.Node.{Node}
use Rattle.snap_core.specs.declared.policy.Atom.{Atom}
use Rattle.snap_diagrams.specs.declared.leaf.Leaf.{Leaf}
use Rattle.snap_diagrams.specs.declared.leaf.Leaf.TheVariants.{Race, Go as Goes}
use Rattle.snap_diagrams.specs.Leaves.{Answer}
use Rattle.snap_diagrams.specs.Diagrams.{Diagram, diagram, walk}
use Rattle.snap_core.specs.declared.policy.Test.{Test}
use Rattle.snap_diagrams.specs.Order.{Above}
use Rattle.snap_diagrams.specs.Bounds.{Sizes}
use Rattle.snap_diagrams.specs.Picks.{IsDiagram}

-- a leaf that passes the packet as it is, or nothing, whatever it logs
abbrev pub IsPredicateLeaf : Leaf → Type 0
IsPredicateLeaf Race = ⊥
IsPredicateLeaf (Goes g) = (g.ups ≡ []) × ((g.outs ≡ []) ⊎ (g.outs ≡ [] ∷ []))

-- each leaf to which it walks is that of a predicate
abbrev pub IsPredicate : List (Node Leaf) → ℕ → Type 0
IsPredicate ns d = (m : Arrays) (k : List ℕ) → IsPredicateLeaf (walk (diagram ns d) m k)

abbrev pub any_outs : List (List (ℕ × Atom)) → Bool
any_outs [] = false
any_outs (x ∷ xs) = true

abbrev pub passed : Leaf → Bool
passed Race = false
passed (Goes g) = any_outs g.outs

abbrev pub reads_of : Leaf → ℕ
reads_of Race = 0
reads_of (Goes g) = g.reads

-- whether the predicate is true, and what it reads
abbrev pub holds : List (Node Leaf) → ℕ → Arrays → List ℕ → Bool
holds ns d m k = passed (walk (diagram ns d) m k)

abbrev pub reads : List (Node Leaf) → ℕ → Arrays → List ℕ → ℕ
reads ns d m k = reads_of (walk (diagram ns d) m k)

-- what two predicates read
abbrev pub reads_of_both : List (Node Leaf) → ℕ → ℕ → Arrays → List ℕ → ℕ
reads_of_both ns a b m k = bit_or (reads ns a m k) (reads ns b m k)

-- the answer of a predicate
abbrev pub test_answer : Bool → ℕ → List ℕ → Option Answer
test_answer b r k = Some (record { packets = if b then with_packet no_packets k else no_packets; reads = r; writes = 0; change = λ m. m })

-- an answer with more variables read
abbrev pub more_reads : ℕ → Option Answer → Option Answer
more_reads r None = None
more_reads r (Some a) = Some (record { packets = a.packets; reads = bit_or r a.reads; writes = a.writes; change = a.change })

-- the other packets, with the same reads
abbrev pub turned_outs : List (List (ℕ × Atom)) → List (List (ℕ × Atom))
turned_outs [] = [] ∷ []
turned_outs (x ∷ xs) = []

abbrev pub negate_leaf : Leaf → Leaf
negate_leaf Race = Race
negate_leaf (Goes g) = Goes (record { outs = turned_outs g.outs; ups = []; reads = g.reads; writes = 0 })

-- r goes to the negation of the leaf to which d goes, under each order of tests
pub record IsNegated (d r : Diagram) : Type 0 where
  pub walks : (m : Arrays) (k : List ℕ) → walk r m k ≡ negate_leaf (walk d m k)
  pub keeps : (ranks : List ℕ) (s : Sizes) → IsDiagram ranks s d → IsDiagram ranks s r
  pub above : (ranks : List ℕ) (s : Sizes) (low : Test) → IsDiagram ranks s d → Above ranks low d → Above ranks low r
