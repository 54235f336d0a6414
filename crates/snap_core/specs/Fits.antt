-- Which programs fit a number of components and a number of variables.
use Rattle.std.specs.Prelude.{ℕ, ◌<◌, List}
use Rattle.std.specs.List.{All}
use Rattle.snap_core.specs.declared.policy.Atom.{Atom}
use Rattle.snap_core.specs.declared.policy.Atom.TheVariants.{Num, Comp}
use Rattle.snap_core.specs.declared.policy.Op.{Op}
use Rattle.snap_core.specs.declared.policy.Op.TheVariants.{Put, Add}
use Rattle.snap_core.specs.declared.policy.Update.{Update}
use Rattle.snap_core.specs.declared.policy.Pol.{Pol}
use Rattle.snap_core.specs.declared.policy.Pol.TheVariants.{Filter, Set, Change, Par', Seq', If', Atomic'}
use Rattle.snap_core.specs.declared.policy.Pred.{Pred}
use Rattle.snap_core.specs.declared.policy.Pred.TheVariants.{Id, Drop, Field, State, Not', And', Or'}

abbrev pub AtomFits : ℕ → Atom → Type 0
AtomFits c (Num n) = Unit {0}
AtomFits c (Comp i) = i < c

abbrev pub OpFits : ℕ → Op → Type 0
OpFits c (Put a) = AtomFits c a
OpFits c (Add n) = Unit {0}

abbrev pub IndexFits : ℕ → List Atom → Type 0
IndexFits c es = All (AtomFits c) es

pub record UpdateFits (c v : ℕ) (u : Update) : Type 0 where
  pub var : u.var < v
  pub index : IndexFits c u.index
  pub op : OpFits c u.op

-- an update of any variable that reads no other component
pub record UpdateReads (c : ℕ) (u : Update) : Type 0 where
  pub index : IndexFits c u.index
  pub op : OpFits c u.op

abbrev pub PredFits : ℕ → ℕ → Pred → Type 0
PredFits c v Id = Unit {0}
PredFits c v Drop = Unit {0}
PredFits c v (Field i n) = i < c
PredFits c v (State s es a) = (s < v) × IndexFits c es × AtomFits c a
PredFits c v (Not' _ x) = PredFits c v x
PredFits c v (And' _ x _ y) = PredFits c v x × PredFits c v y
PredFits c v (Or' _ x _ y) = PredFits c v x × PredFits c v y

-- each variable of a predicate is below v
abbrev pub VarsBelow : ℕ → Pred → Type 0
VarsBelow v Id = Unit {0}
VarsBelow v Drop = Unit {0}
VarsBelow v (Field i n) = Unit {0}
VarsBelow v (State s es a) = s < v
VarsBelow v (Not' _ x) = VarsBelow v x
VarsBelow v (And' _ x _ y) = VarsBelow v x × VarsBelow v y
VarsBelow v (Or' _ x _ y) = VarsBelow v x × VarsBelow v y

abbrev pub PolFits : ℕ → ℕ → Pol → Type 0
PolFits c v (Filter x) = PredFits c v x
PolFits c v (Set i a) = (i < c) × AtomFits c a
PolFits c v (Change u) = UpdateFits c v u
PolFits c v (Par' _ p _ q) = PolFits c v p × PolFits c v q
PolFits c v (Seq' _ p _ q) = PolFits c v p × PolFits c v q
PolFits c v (If' x _ p _ q) = PredFits c v x × PolFits c v p × PolFits c v q
PolFits c v (Atomic' _ p) = PolFits c v p
