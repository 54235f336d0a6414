-- Dependencies between the variables of a policy.
use Rattle.std.specs.Prelude.{◌≡◌, ◌⊎◌, ℕ, ◌<◌}
use Rattle.snap_core.specs.declared.policy.Pol.{Pol}
use Rattle.snap_core.specs.declared.policy.Pol.TheVariants.{Filter, Set, Change, Par', Seq', If', Atomic'}
use Rattle.snap_core.specs.declared.policy.Pred.{Pred}
use Rattle.snap_core.specs.declared.policy.Pred.TheVariants.{Id, Drop, Field, State, Not', And', Or'}
use Rattle.snap_core.specs.Fits.{VarsBelow}

-- the variable stands in the predicate
abbrev pub Tests : Pred → ℕ → Type 0
Tests Id v = ⊥
Tests Drop v = ⊥
Tests (Field c n) v = ⊥
Tests (State s es a) v = s ≡ v
Tests (Not' _ x) v = Tests x v
Tests (And' _ x _ y) v = Tests x v ⊎ Tests y v
Tests (Or' _ x _ y) v = Tests x v ⊎ Tests y v

-- the variable stands in a predicate of the policy
abbrev pub Reads : Pol → ℕ → Type 0
Reads (Filter x) v = Tests x v
Reads (Set c a) v = ⊥
Reads (Change u) v = ⊥
Reads (Par' _ p _ q) v = Reads p v ⊎ Reads q v
Reads (Seq' _ p _ q) v = Reads p v ⊎ Reads q v
Reads (If' x _ p _ q) v = Tests x v ⊎ (Reads p v ⊎ Reads q v)
Reads (Atomic' _ p) v = Reads p v

-- the variable stands in an update of the policy
abbrev pub Writes : Pol → ℕ → Type 0
Writes (Filter x) v = ⊥
Writes (Set c a) v = ⊥
Writes (Change u) v = u.var ≡ v
Writes (Par' _ p _ q) v = Writes p v ⊎ Writes q v
Writes (Seq' _ p _ q) v = Writes p v ⊎ Writes q v
Writes (If' x _ p _ q) v = Writes p v ⊎ Writes q v
Writes (Atomic' _ p) v = Writes p v

-- there is a dependency from the first variable to the second
abbrev pub Depends : Pol → ℕ → ℕ → Type 0
Depends (Filter x) s t = ⊥
Depends (Set c a) s t = ⊥
Depends (Change u) s t = ⊥
Depends (Par' _ p _ q) s t = Depends p s t ⊎ Depends q s t
Depends (Seq' _ p _ q) s t = (Depends p s t ⊎ Depends q s t) ⊎ (Reads p s × Writes q t)
Depends (If' x _ p _ q) s t = (Depends p s t ⊎ Depends q s t) ⊎ (Tests x s × (Writes p t ⊎ Writes q t))
Depends (Atomic' _ p) s t = (Reads p s ⊎ Writes p s) × (Reads p t ⊎ Writes p t)

-- a chain of dependencies
pub data Reaches (p : Pol) : ℕ → ℕ → Type 0 where
  one : {s t : ℕ} → Depends p s t → Reaches p s t
  more : {s t u : ℕ} → Depends p s t → Reaches p t u → Reaches p s u

-- the same variable, or each reaches the other
abbrev pub Tied : Pol → ℕ → ℕ → Type 0
Tied p s t = (s ≡ t) ⊎ (Reaches p s t × Reaches p t s)

pub record TiedIsEquivalence (p : Pol) : Type 0 where
  pub itself : (s : ℕ) → Tied p s s
  pub back : (s t : ℕ) → Tied p s t → Tied p t s
  pub on : (s t u : ℕ) → Tied p s t → Tied p t u → Tied p s u

-- each variable of a policy is below n
abbrev pub UsesBelow : ℕ → Pol → Type 0
UsesBelow n (Filter x) = VarsBelow n x
UsesBelow n (Set c a) = Unit {0}
UsesBelow n (Change u) = u.var < n
UsesBelow n (Par' _ p _ q) = UsesBelow n p × UsesBelow n q
UsesBelow n (Seq' _ p _ q) = UsesBelow n p × UsesBelow n q
UsesBelow n (If' x _ p _ q) = VarsBelow n x × UsesBelow n p × UsesBelow n q
UsesBelow n (Atomic' _ p) = UsesBelow n p
