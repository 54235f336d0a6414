-- When two diagrams do the same, and two programs mean the same.
use Rattle.std.specs.Prelude.{◌≡◌, ◌<◌, ℕ, List, length, Option, Some, None}
use Rattle.snap_core.specs.declared.program.Program.{Program}
use Rattle.snap_core.specs.Arrays.{Arrays}
use Rattle.snap_core.specs.Cells.{arrays_of}
use Rattle.snap_core.specs.Fields.{count}
use Rattle.snap_core.specs.Inputs.{IsStore, IsPacket, IsInput}
use Rattle.snap_core.specs.Meaning.{Meaning, eval}
use Rattle.snap_diagrams.specs.declared.node.Node.{Node}
use Rattle.snap_diagrams.specs.declared.leaf.Leaf.{Leaf}
use Rattle.snap_diagrams.specs.Diagrams.{diagram}
use Rattle.snap_compose.specs.Substituted.{outcome}
use Rattle.snap_equal.specs.Inputs.{IsComparable}
use Rattle.snap_equal.specs.declared.comparing.Compared.{Compared}
use Rattle.snap_equal.specs.declared.comparing.Compared.TheVariants.{Same, Differ}

-- the same store and the same set of packets. Logs are not compared
pub record Agree (x y : Meaning) : Type 0 where
  pub stores : x.arrays ≡ y.arrays
  pub packets : x.packets ≡ y.packets

-- both outcomes are undefined, or both are defined and agree
abbrev pub SameOutcome : Option Meaning → Option Meaning → Type 0
SameOutcome None None = Unit {0}
SameOutcome None (Some y) = ⊥
SameOutcome (Some x) None = ⊥
SameOutcome (Some x) (Some y) = Agree x y

-- two programs mean the same: on every store and packet their outcomes are the same
abbrev pub MeanSame : Program → Program → Type 0
MeanSame p q = (m : Arrays) (k : List ℕ) → IsStore m → IsPacket (count p.fields) k → SameOutcome (eval p.body m k) (eval q.body m k)

-- a store and a packet of the program p on which the outcomes of p and q are not the same
pub record TellApart (p q : Program) (m : Arrays) (k : List ℕ) : Type 0 where
  pub of : IsInput (count p.fields) (length p.arrays) m k
  pub differ : SameOutcome (eval p.body m k) (eval q.body m k) → ⊥

-- a diagram over so many components and variables in which nothing races, and whose indices have at most eight atoms
pub record CanBeCompared (comps arrays : ℕ) (ns : List (Node Leaf)) (d : ℕ) : Type 0 where
  pub below : d < length ns
  pub fits : IsComparable (record { comps = comps; arrays = arrays }) (diagram ns d)

-- two diagrams do the same with a store and a packet
abbrev pub DoSame : List (Node Leaf) → ℕ → List (Node Leaf) → ℕ → Arrays → List ℕ → Type 0
DoSame ns d os e m k = SameOutcome (outcome ns d m k) (outcome os e m k)

-- a store over so many variables and a packet of so many components with which two diagrams don't do the same
pub record DoApart (comps arrays : ℕ) (ns : List (Node Leaf)) (d : ℕ) (os : List (Node Leaf)) (e : ℕ) (m : Arrays) (k : List ℕ) : Type 0 where
  pub of : IsInput comps arrays m k
  pub differ : DoSame ns d os e m k → ⊥

-- they do the same with every store and every packet of so many components, or not with this store and this packet
abbrev pub IsCompared : (comps arrays : ℕ) → List (Node Leaf) → ℕ → List (Node Leaf) → ℕ → Compared → Type 0
IsCompared comps arrays ns d os e Same = (m : Arrays) (k : List ℕ) → IsStore m → IsPacket comps k → DoSame ns d os e m k
IsCompared comps arrays ns d os e (Differ s k) = DoApart comps arrays ns d os e (arrays_of s) k
