-- Which tests and policies of the core language fit c components and v arrays, each of which is indexed as it was first.
-- W tells that no index is empty, as none is where a text derives the tree.
use Rattle.std.proofs.Common.{◌≡◌, ℕ, ◌<◌, ◌≤◌, min, length, List, Some, slice_get, arith, le_refl, le_trans, lt_of_lt_of_le}
use Rattle.std.proofs.Math.Nat.{min-le_left}
use Rattle.snap_names.specs.Core.{Atom, Num, Comp, Op, Put, Add, Pol, Filter, Set, Change, Par', Seq', If', Atomic', Pred, Field, State, Not', And', Or', CoreTest, field_test, state_test, not_test, and_test, or_test, core_test, CorePolicy, filter, set, change, par, seq, choice, atomic, core_policy}
use Rattle.snap_core.specs.Fits.{AtomFits, OpFits, IndexFits, PredFits, PolFits}
use Rattle.snap_names.specs.Senses.{Arities}
use Rattle.std.proofs.lemmas.List.Elements.{All-weaker}

-- an array with its number in 16 bits, and an index of as many atoms as its first one
pub record IsIndexed (W : Type 0) (v : ℕ) (seen : Arities) (s : ℕ) (es : List Atom) : Type 0 where
  pub array : ℕ
  pub below : array < v
  pub number : s ≡ min array 65535
  pub arity : slice_get seen array ≡ Some (Some (length es))
  pub some : W → 1 ≤ length es

abbrev pub TestFits : Type 0 → ℕ → ℕ → Arities → CoreTest → Type 0
TestFits W c v seen (field_test i n) = i < c
TestFits W c v seen (state_test s es a) = IsIndexed W v seen s es × IndexFits c es × AtomFits c a
TestFits W c v seen (not_test x) = TestFits W c v seen x
TestFits W c v seen (and_test x y) = TestFits W c v seen x × TestFits W c v seen y
TestFits W c v seen (or_test x y) = TestFits W c v seen x × TestFits W c v seen y
TestFits W c v seen _ = Unit {0}

abbrev pub PolicyFits : Type 0 → ℕ → ℕ → Arities → CorePolicy → Type 0
PolicyFits W c v seen (filter x) = TestFits W c v seen x
PolicyFits W c v seen (set i a) = (i < c) × AtomFits c a
PolicyFits W c v seen (change u) = IsIndexed W v seen u.var u.index × IndexFits c u.index × OpFits c u.op
PolicyFits W c v seen (par p q) = PolicyFits W c v seen p × PolicyFits W c v seen q
PolicyFits W c v seen (seq p q) = PolicyFits W c v seen p × PolicyFits W c v seen q
PolicyFits W c v seen (choice x p q) = TestFits W c v seen x × PolicyFits W c v seen p × PolicyFits W c v seen q
PolicyFits W c v seen (atomic p) = PolicyFits W c v seen p

array-below : (W : Type 0) (v : ℕ) (seen : Arities) (s : ℕ) (es : List Atom) → IsIndexed W v seen s es → s < v
array-below W v seen s es h = omega (arith, min-le_left h.array 65535, h.below, h.number)

-- The code's predicates and policies fit as their core forms do.
pub PredFits-core_test : (W : Type 0) (c v : ℕ) (seen : Arities) (x : Pred) → TestFits W c v seen (core_test x) → PredFits c v x
PredFits-core_test W c v seen (Field i n) h = h
PredFits-core_test W c v seen (State s es a) h = (array-below W v seen s es h.0, h.1, h.2)
PredFits-core_test W c v seen (Not' _ x) h = PredFits-core_test W c v seen x h
PredFits-core_test W c v seen (And' _ x _ y) h = (PredFits-core_test W c v seen x h.0, PredFits-core_test W c v seen y h.1)
PredFits-core_test W c v seen (Or' _ x _ y) h = (PredFits-core_test W c v seen x h.0, PredFits-core_test W c v seen y h.1)
PredFits-core_test W c v seen _ h = tt

pub PolFits-core_policy : (W : Type 0) (c v : ℕ) (seen : Arities) (p : Pol) → PolicyFits W c v seen (core_policy p) → PolFits c v p
PolFits-core_policy W c v seen (Filter x) h = PredFits-core_test W c v seen x h
PolFits-core_policy W c v seen (Set i a) h = h
PolFits-core_policy W c v seen (Change u) h = record { var = array-below W v seen u.var u.index h.0; index = h.1; op = h.2 }
PolFits-core_policy W c v seen (Par' _ p _ q) h = (PolFits-core_policy W c v seen p h.0, PolFits-core_policy W c v seen q h.1)
PolFits-core_policy W c v seen (Seq' _ p _ q) h = (PolFits-core_policy W c v seen p h.0, PolFits-core_policy W c v seen q h.1)
PolFits-core_policy W c v seen (If' x _ p _ q) h = (PredFits-core_test W c v seen x h.0, PolFits-core_policy W c v seen p h.1, PolFits-core_policy W c v seen q h.2)
PolFits-core_policy W c v seen (Atomic' _ p) h = PolFits-core_policy W c v seen p h

-- Arities that are known stay so, and arrays too.
pub record Grows (before behind : Arities) : Type 0 where
  pub size : length before ≤ length behind
  pub kept : (i n : ℕ) → slice_get before i ≡ Some (Some n) → slice_get behind i ≡ Some (Some n)

pub Grows-same : (seen : Arities) → Grows seen seen
Grows-same seen = record { size = le_refl (length seen); kept = λ i n h. h }

pub Grows-then : (a b c : Arities) → Grows a b → Grows b c → Grows a c
Grows-then a b c h k = record { size = le_trans h.size k.size; kept = λ i n e. k.kept i n (h.kept i n e) }

-- What fits, fits where there are more components and arrays.
AtomFits-more : (c d : ℕ) → c ≤ d → (a : Atom) → AtomFits c a → AtomFits d a
AtomFits-more c d k (Num n) h = tt
AtomFits-more c d k (Comp i) h = lt_of_lt_of_le h k

OpFits-more : (c d : ℕ) → c ≤ d → (o : Op) → OpFits c o → OpFits d o
OpFits-more c d k (Put a) h = AtomFits-more c d k a h
OpFits-more c d k (Add n) h = tt

IndexFits-more : (c d : ℕ) → c ≤ d → (es : List Atom) → IndexFits c es → IndexFits d es
IndexFits-more c d k es h = All-weaker (AtomFits c) (AtomFits d) (AtomFits-more c d k) es h

IsIndexed-more : (W : Type 0) (v w : ℕ) (seen now : Arities) → v ≤ w → Grows seen now → (s : ℕ) (es : List Atom) → IsIndexed W v seen s es → IsIndexed W w now s es
IsIndexed-more W v w seen now l g s es h = record { array = h.array; below = lt_of_lt_of_le h.below l; number = h.number; arity = g.kept h.array (length es) h.arity; some = h.some }

pub TestFits-more : (W : Type 0) (c d v w : ℕ) (seen now : Arities) → c ≤ d → v ≤ w → Grows seen now → (x : CoreTest) → TestFits W c v seen x → TestFits W d w now x
TestFits-more W c d v w seen now k l g (field_test i n) h = lt_of_lt_of_le h k
TestFits-more W c d v w seen now k l g (state_test s es a) h = (IsIndexed-more W v w seen now l g s es h.0, IndexFits-more c d k es h.1, AtomFits-more c d k a h.2)
TestFits-more W c d v w seen now k l g (not_test x) h = TestFits-more W c d v w seen now k l g x h
TestFits-more W c d v w seen now k l g (and_test x y) h = (TestFits-more W c d v w seen now k l g x h.0, TestFits-more W c d v w seen now k l g y h.1)
TestFits-more W c d v w seen now k l g (or_test x y) h = (TestFits-more W c d v w seen now k l g x h.0, TestFits-more W c d v w seen now k l g y h.1)
TestFits-more W c d v w seen now k l g _ h = tt

pub PolicyFits-more : (W : Type 0) (c d v w : ℕ) (seen now : Arities) → c ≤ d → v ≤ w → Grows seen now → (p : CorePolicy) → PolicyFits W c v seen p → PolicyFits W d w now p
PolicyFits-more W c d v w seen now k l g (filter x) h = TestFits-more W c d v w seen now k l g x h
PolicyFits-more W c d v w seen now k l g (set i a) h = (lt_of_lt_of_le h.0 k, AtomFits-more c d k a h.1)
PolicyFits-more W c d v w seen now k l g (change u) h = (IsIndexed-more W v w seen now l g u.var u.index h.0, IndexFits-more c d k u.index h.1, OpFits-more c d k u.op h.2)
PolicyFits-more W c d v w seen now k l g (par p q) h = (PolicyFits-more W c d v w seen now k l g p h.0, PolicyFits-more W c d v w seen now k l g q h.1)
PolicyFits-more W c d v w seen now k l g (seq p q) h = (PolicyFits-more W c d v w seen now k l g p h.0, PolicyFits-more W c d v w seen now k l g q h.1)
PolicyFits-more W c d v w seen now k l g (choice x p q) h = (TestFits-more W c d v w seen now k l g x h.0, PolicyFits-more W c d v w seen now k l g p h.1, PolicyFits-more W c d v w seen now k l g q h.2)
PolicyFits-more W c d v w seen now k l g (atomic p) h = PolicyFits-more W c d v w seen now k l g p h
