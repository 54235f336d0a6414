-- Lists of what a function gives for a range of numbers.
use Rattle.std.proofs.Common.{◌≡◌, ℕ, zero, suc, ◌+◌, ◌<◌, ◌≤◌, Bool, false, map, Ordering, Less, arith}
use Rattle.std.specs.List.{AllByRecursion, IsDistinct, range_with_len}
use Rattle.std.specs.List.Sorted.{IsStrictlySortedBy}

module _ {X : Type 0} (f : ℕ → X) (most : ℕ) where
  -- what holds for each number below a bound
  pub each : (P : X → Type 0) → ((i : ℕ) → i < most → P (f i)) → (a n : ℕ) → a + n ≤ most → AllByRecursion P (map f (range_with_len a n))
  each P here a zero within = tt
  each P here a (suc n) within = (here a (omega arith), each P here (a + 1) n (omega arith))

  -- what holds for each two numbers below a bound
  pub later : (R : X → X → Type 0) → ((i j : ℕ) → i < j → j < most → R (f i) (f j)) → (a b n : ℕ) → a < b → b + n ≤ most → AllByRecursion (R (f a)) (map f (range_with_len b n))
  later R here a b zero less within = tt
  later R here a b (suc n) less within = (here a b less (omega arith), later R here a (b + 1) n (omega arith) (omega arith))

  pub rising : (cmp : X → X → Ordering) → ((i j : ℕ) → i < j → j < most → cmp (f i) (f j) ≡ Less) → (a n : ℕ) → a + n ≤ most → IsStrictlySortedBy cmp (map f (range_with_len a n))
  unfolding IsStrictlySortedBy
  rising cmp here a zero within = tt
  rising cmp here a (suc n) within = (later (λ x y. cmp x y ≡ Less) here a (a + 1) n (omega arith) (omega arith), rising cmp here (a + 1) n (omega arith))

  pub apart : (eq : X → X → Bool) → ((i j : ℕ) → i < j → j < most → eq (f i) (f j) ≡ false) → (a n : ℕ) → a + n ≤ most → IsDistinct eq (map f (range_with_len a n))
  unfolding IsDistinct
  apart eq here a zero within = tt
  apart eq here a (suc n) within = (later (λ x y. eq x y ≡ false) here a (a + 1) n (omega arith) (omega arith), apart eq here (a + 1) n (omega arith))
