-- What is known of leaves and diagrams that are compared.
use Rattle.std.specs.Prelude.{◌≡◌, ℕ, ◌<◌, ◌≤◌, true, List, length, All}
use Rattle.snap_core.specs.declared.policy.Test.{Test}
use Rattle.snap_core.specs.declared.policy.Update.{Update}
use Rattle.snap_core.specs.Fits.{IndexFits, OpFits}
use Rattle.snap_core.specs.Tests.{OutFits, TestFits}
use Rattle.snap_context.specs.Classes.{index_of, is_state, var_of}
use Rattle.snap_context.specs.View.{View}
use Rattle.snap_diagrams.specs.declared.leaf.Leaf.{Leaf}
use Rattle.snap_diagrams.specs.declared.leaf.Leaf.TheVariants.{Race, Go as Goes}
use Rattle.snap_diagrams.specs.Diagrams.{Diagram, Only, Asks}

-- so many components and variables
pub record Space : Type 0 where
  pub comps : ℕ
  pub arrays : ℕ

-- the space of a context's components and so many variables
abbrev pub space : View → ℕ → Space
space v arrays = record { comps = length v.classes; arrays = arrays }

-- components below a number, and at most eight atoms in an index
pub record IsUpdate (comps : ℕ) (u : Update) : Type 0 where
  pub index : IndexFits comps u.index
  pub short : length u.index ≤ 8
  pub op : OpFits comps u.op

-- of so many variables
abbrev pub AreOf : ℕ → List Update → Type 0
AreOf arrays us = All (λ u. u.var < arrays) us

pub record IsTest (s : Space) (t : Test) : Type 0 where
  pub fits : TestFits s.comps t
  pub short : length (index_of t) ≤ 8
  pub var : is_state t ≡ true → var_of t < s.arrays

-- nor does it race
abbrev pub IsLeaf : Space → Leaf → Type 0
IsLeaf s Race = ⊥
IsLeaf s (Goes g) = All (OutFits s.comps) g.outs × All (IsUpdate s.comps) g.ups × AreOf s.arrays g.ups

abbrev pub IsComparable : Space → Diagram → Type 0
IsComparable s (Only l) = IsLeaf s l
IsComparable s (Asks t y n) = IsTest s t × IsComparable s y × IsComparable s n
