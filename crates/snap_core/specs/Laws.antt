-- Laws of evaluation.
use Rattle.std.specs.Prelude.{◌≡◌, ℕ, ◌<◌, ◌^◌, List, [], ◌∷◌, IsTrue, true, false, Some, bit_or, length, ⊤}
use Rattle.std.specs.List.{All}
use Rattle.std.specs.FinMap.{contains_key}
use Rattle.snap_core.specs.declared.place.Place.{Place}
use Rattle.snap_core.specs.declared.policy.Op.{Op}
use Rattle.snap_core.specs.declared.policy.Op.TheVariants.{Put, Add}
use Rattle.snap_core.specs.declared.policy.Pol.{Pol}
use Rattle.snap_core.specs.declared.policy.Pol.TheVariants.{Filter, Set, Change, Par', Seq', If', Atomic'}
use Rattle.snap_core.specs.declared.policy.Update.{Update}
use Rattle.snap_core.specs.Arrays.{Arrays, taken, updates, has}
use Rattle.snap_core.specs.Meaning.{Meaning, eval, vars_of}
use Rattle.snap_core.specs.Ranges.{AtomInRange}
use Rattle.snap_core.specs.Inputs.{IsStore}

-- a variable that is not in the log of writes is as it was
abbrev pub KeepsUnwritten : Type 0
KeepsUnwritten = (p : Pol) (m : Arrays) (k : List ℕ) (o : Meaning)
    → eval p m k ≡ Some o → (q : Place) → has o.writes q.var ≡ false → o.arrays q ≡ m q

-- n is as m is at each variable of a set
abbrev pub AgreesOn : ℕ → Arrays → Arrays → Type 0
AgreesOn arrays m n = (q : Place) → has arrays q.var ≡ true → n q ≡ m q

-- an evaluation depends on the variables of its logs alone: from other arrays that agree on them it does the same, and leaves
-- the rest of these as it is
abbrev pub DependsOnLogged : Type 0
DependsOnLogged = (p : Pol) (m n : Arrays) (k : List ℕ) (o : Meaning) → eval p m k ≡ Some o → AgreesOn (bit_or o.reads o.writes) m n
    → eval p n k ≡ Some (record o { arrays = taken n o.arrays o.writes })

-- the variables of updates
abbrev pub written_by : List Update → ℕ
written_by [] = 0
written_by (u ∷ us) = bit_or (2 ^ u.var) (written_by us)

-- updates of other variables may be done from the same arrays, side by side
abbrev pub DoesSideBySide : Type 0
DoesSideBySide = (us vs : List Update) (m : Arrays) (k : List ℕ) → ((v : ℕ) → has (written_by us) v ≡ true → has (written_by vs) v ≡ false)
    → updates (updates m us k) vs k ≡ taken (updates m us k) (updates m vs k) (written_by vs)

-- and in either order
abbrev pub Commutes : Type 0
Commutes = (us vs : List Update) (m : Arrays) (k : List ℕ) → ((v : ℕ) → has (written_by us) v ≡ true → has (written_by vs) v ≡ false)
    → updates (updates m us k) vs k ≡ updates (updates m vs k) us k

-- ---- logs
-- the variables that stand in predicates, and those that stand in updates
abbrev pub read_vars : Pol → ℕ
read_vars (Filter x) = vars_of x
read_vars (Set c a) = 0
read_vars (Change u) = 0
read_vars (Par' _ p _ q) = bit_or (read_vars p) (read_vars q)
read_vars (Seq' _ p _ q) = bit_or (read_vars p) (read_vars q)
read_vars (If' x _ p _ q) = bit_or (vars_of x) (bit_or (read_vars p) (read_vars q))
read_vars (Atomic' _ p) = read_vars p

abbrev pub write_vars : Pol → ℕ
write_vars (Filter x) = 0
write_vars (Set c a) = 0
write_vars (Change u) = 2 ^ u.var
write_vars (Par' _ p _ q) = bit_or (write_vars p) (write_vars q)
write_vars (Seq' _ p _ q) = bit_or (write_vars p) (write_vars q)
write_vars (If' x _ p _ q) = bit_or (write_vars p) (write_vars q)
write_vars (Atomic' _ p) = write_vars p

-- each variable of a is one of b
abbrev pub IsWithin : ℕ → ℕ → Type 0
IsWithin a b = (v : ℕ) → has a v ≡ true → has b v ≡ true

-- what is read stands in predicates, and what is written stands in updates
abbrev pub LogsWhatStands : Type 0
LogsWhatStands = (p : Pol) (m : Arrays) (k : List ℕ) (o : Meaning)
    → eval p m k ≡ Some o → IsWithin o.reads (read_vars p) × IsWithin o.writes (write_vars p)

-- ---- 64 bits
abbrev pub OpIsSmall : Op → Type 0
OpIsSmall (Put a) = AtomInRange a
OpIsSmall (Add n) = ⊤

-- each number that a policy puts anywhere has 64 bits
abbrev pub PutsSmall : Pol → Type 0
PutsSmall (Filter x) = ⊤
PutsSmall (Set c a) = AtomInRange a
PutsSmall (Change u) = OpIsSmall u.op
PutsSmall (Par' _ p _ q) = PutsSmall p × PutsSmall q
PutsSmall (Seq' _ p _ q) = PutsSmall p × PutsSmall q
PutsSmall (If' x _ p _ q) = PutsSmall p × PutsSmall q
PutsSmall (Atomic' _ p) = PutsSmall p

abbrev pub AreSmall : List ℕ → Type 0
AreSmall k = All (λ n. n < 2 ^ 64) k

-- numbers stay within 64 bits, and packets keep their length
abbrev pub StaysSmall : Type 0
StaysSmall = (p : Pol) (m : Arrays) (k : List ℕ) (o : Meaning) → PutsSmall p → IsStore m → AreSmall k → eval p m k ≡ Some o
    → IsStore o.arrays × ((k' : List ℕ) → IsTrue (contains_key o.packets k') → (length k' ≡ length k) × AreSmall k')
