-- Which components, variables and indices a diagram has.
use Rattle.std.specs.Prelude.{ℕ, ◌<◌, ◌≤◌, ◌^◌, List, length, All}
use Rattle.snap_core.specs.declared.policy.Atom.{Atom}
use Rattle.snap_core.specs.declared.policy.Test.{Test}
use Rattle.snap_core.specs.declared.policy.Test.TheVariants.{Value, Equal, State}
use Rattle.snap_core.specs.declared.policy.Update.{Update}
use Rattle.snap_core.specs.Fits.{OpFits, IndexFits}
use Rattle.snap_core.specs.Tests.{TermFits, OutFits}
use Rattle.snap_core.specs.Ranges.{TermInRange}
use Rattle.snap_diagrams.specs.declared.leaf.Leaf.{Leaf}
use Rattle.snap_diagrams.specs.declared.leaf.Leaf.TheVariants.{Race, Go as Goes}
use Rattle.snap_diagrams.specs.Diagrams.{Diagram, Only, Asks}

-- so many components and variables
pub record Sizes : Type 0 where
  pub comps : ℕ
  pub arrays : ℕ

-- from one to eight atoms, each a number or one of so many components
pub record IsIndex (comps : ℕ) (ix : List Atom) : Type 0 where
  pub some : 1 ≤ length ix
  pub few : length ix ≤ 8
  pub atoms : IndexFits comps ix

-- the numbers have 64 bits, and of two components the lower is on the left
abbrev pub TestIn : Sizes → Test → Type 0
TestIn s (Value c n) = (c < s.comps) × (n < 2 ^ 64)
TestIn s (Equal l r p) = (l < r) × (r < s.comps) × (p < 2 ^ 64)
TestIn s (State v ix t) = (v < s.arrays) × IsIndex s.comps ix × TermFits s.comps t × TermInRange t

pub record UpdateIn (s : Sizes) (u : Update) : Type 0 where
  pub var : u.var < s.arrays
  pub index : IsIndex s.comps u.index
  pub op : OpFits s.comps u.op

-- the logs are sets of the variables
abbrev pub LeafIn : Sizes → Leaf → Type 0
LeafIn s Race = Unit {0}
LeafIn s (Goes g) = All (OutFits s.comps) g.outs × All (UpdateIn s) g.ups × (g.reads < 2 ^ s.arrays) × (g.writes < 2 ^ s.arrays)

abbrev pub IsIn : Sizes → Diagram → Type 0
IsIn s (Only l) = LeafIn s l
IsIn s (Asks t y n) = TestIn s t × IsIn s y × IsIn s n
