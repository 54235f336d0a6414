-- Which programs are in form.
use Rattle.std.specs.Prelude.{◌≡◌, ℕ, ◌≤◌, ◌++◌, length, ⊤}
use Rattle.std.specs.List.{All, IsDistinct}
use Rattle.std.specs.Str.{bytes_eq}
use Rattle.snap_core.specs.declared.policy.Pol.{Pol}
use Rattle.snap_core.specs.declared.policy.Pol.TheVariants.{Filter, Set, Change, Par', Seq', If', Atomic'}
use Rattle.snap_core.specs.declared.policy.Pred.{Pred}
use Rattle.snap_core.specs.declared.policy.Pred.TheVariants.{Id, Drop, Field, State, Not', And', Or'}
use Rattle.snap_core.specs.declared.program.Program.{Program}
use Rattle.snap_core.specs.Fields.{IsFields, count, names_of}
use Rattle.snap_core.specs.Fits.{PolFits}
use Rattle.snap_core.specs.Names.{IsName}

-- each index of a variable has as many atoms as `arity` says
abbrev pub PredHasArity : (ℕ → ℕ) → Pred → Type 0
PredHasArity arity Id = ⊤
PredHasArity arity Drop = ⊤
PredHasArity arity (Field c n) = ⊤
PredHasArity arity (State s es a) = length es ≡ arity s
PredHasArity arity (Not' _ x) = PredHasArity arity x
PredHasArity arity (And' _ x _ y) = PredHasArity arity x × PredHasArity arity y
PredHasArity arity (Or' _ x _ y) = PredHasArity arity x × PredHasArity arity y

abbrev pub HasArity : (ℕ → ℕ) → Pol → Type 0
HasArity arity (Filter x) = PredHasArity arity x
HasArity arity (Set c a) = ⊤
HasArity arity (Change u) = length u.index ≡ arity u.var
HasArity arity (Par' _ p _ q) = HasArity arity p × HasArity arity q
HasArity arity (Seq' _ p _ q) = HasArity arity p × HasArity arity q
HasArity arity (If' x _ p _ q) = PredHasArity arity x × HasArity arity p × HasArity arity q
HasArity arity (Atomic' _ p) = HasArity arity p

-- the indices of each variable have one number of atoms, from 1 to 8
pub record HasOneArity (p : Pol) : Type 0 where
  pub arity : ℕ → ℕ
  pub from_1_to_8 : (s : ℕ) → (1 ≤ arity s) × (arity s ≤ 8)
  pub of_each : HasArity arity p

-- a program in form: its fields are fields, its names are different names of the language, its body has no other component or
-- variable, and each variable is indexed in one way
pub record IsWellFormed (p : Program) : Type 0 where
  pub fields : IsFields p.fields
  pub names : All IsName (names_of p.fields ++ p.arrays)
  pub different : IsDistinct bytes_eq (names_of p.fields ++ p.arrays)
  pub few : length p.arrays ≤ 64
  pub fits : PolFits (count p.fields) (length p.arrays) p.body
  pub indices : HasOneArity p.body

-- no more than 64 arrays, and the body has no component or array beyond the program's
pub record IsBounded (p : Program) : Type 0 where
  pub few : length p.arrays ≤ 64
  pub fits : PolFits (count p.fields) (length p.arrays) p.body
