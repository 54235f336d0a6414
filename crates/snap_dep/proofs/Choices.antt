-- Facts that are decidable, and choices among the numbers below a bound.
use Rattle.std.proofs.Common.{◌≡◌, ◌↔◌, ℕ, zero, suc, ◌+◌, ◌<◌, ◌≤◌, ◌⊎◌, inl, inr, List, length, get_or, sym, subst, arith}
use Rattle.std.specs.List.{Contains}
use Rattle.std.proofs.lemmas.Bool.{cases_eq}

abbrev pub Dec : Type 0 → Type 0
Dec A = A ⊎ (A → ⊥)

pub dec_iff : {A B : Type 0} → A ↔ B → Dec A → Dec B
dec_iff e (inl a) = inl (e.0 a)
dec_iff e (inr f) = inr (λ b. f (e.1 b))

pub dec_both : {A B : Type 0} → Dec A → Dec B → Dec (A × B)
dec_both (inl a) (inl b) = inl (a, b)
dec_both (inl a) (inr g) = inr (λ h. g h.1)
dec_both (inr f) d = inr (λ h. f h.0)

neither : {A B : Type 0} → (A → ⊥) → (B → ⊥) → (A ⊎ B) → ⊥
neither f g (inl a) = f a
neither f g (inr b) = g b

pub dec_either : {A B : Type 0} → Dec A → Dec B → Dec (A ⊎ B)
dec_either (inl a) d = inl (inl a)
dec_either (inr f) (inl b) = inl (inr b)
dec_either (inr f) (inr g) = inr (neither f g)

pub dec_not : {A : Type 0} → Dec A → Dec (A → ⊥)
dec_not (inl a) = inr (λ f. f a)
dec_not (inr f) = inl f

pub dec_never : Dec ⊥
dec_never = inr (λ h. h)

-- ---- the least number below n with a property, or none
abbrev pub Least : (ℕ → Type 0) → ℕ → Type 0
Least P n = ((k : ℕ) × (k < n) × P k × ((j : ℕ) → j < k → P j → ⊥)) ⊎ ((k : ℕ) → k < n → P k → ⊥)

module _ (P : ℕ → Type 0) where
  one_more : (n : ℕ) → Dec (P n) → ((k : ℕ) → k < n → P k → ⊥) → Least P (suc n)
  one_more n (inl h) none = inl (n, omega arith, h, none)
  one_more n (inr f) none = inr (λ k l h. by_place k l h (cases_eq k n))
    where
      by_place : (k : ℕ) → k < suc n → P k → (k ≡ n) ⊎ (k ≡ n → ⊥) → ⊥
      by_place k l h (inl e) = f (subst P e h)
      by_place k l h (inr ne) = none k (omega (arith, l, ne)) h

  least_more : (n : ℕ) → Dec (P n) → Least P n → Least P (suc n)
  least_more n d (inl w) = inl (w.0, (let l = w.1 in omega (arith, l)), w.2, w.3)
  least_more n d (inr none) = one_more n d none

  pub least : ((k : ℕ) → Dec (P k)) → (n : ℕ) → Least P n
  least d zero = inr (λ k l h. absurd (omega (arith, l)))
  least d (suc n) = least_more n (d n) (least d n)

-- ---- a number below n with a property that no other such one is before, or none
abbrev pub Minimal : (ℕ → Type 0) → (ℕ → ℕ → Type 0) → ℕ → Type 0
Minimal P R n = ((m : ℕ) × (m < n) × P m × ((j : ℕ) → j < n → P j → R j m → ⊥)) ⊎ ((k : ℕ) → k < n → P k → ⊥)

module _ (P : ℕ → Type 0) (R : ℕ → ℕ → Type 0) (on : (a b c : ℕ) → R a b → R b c → R a c) (proper : (a : ℕ) → R a a → ⊥) where
  -- P of each number below n + 1, from P of n and below it
  up_to : (Q : ℕ → Type 0) (n : ℕ) → ((k : ℕ) → k < n → Q k) → Q n → (k : ℕ) → k < suc n → Q k
  up_to Q n below here k l = by_place (cases_eq k n)
    where
      by_place : (k ≡ n) ⊎ (k ≡ n → ⊥) → Q k
      by_place (inl e) = subst Q (sym e) here
      by_place (inr ne) = below k (omega (arith, l, ne))

  with_new : (n : ℕ) → P n → (m : ℕ) → m < n → P m → ((j : ℕ) → j < n → P j → R j m → ⊥) → Dec (R n m) → Minimal P R (suc n)
  with_new n h m l pm below (inl r) = inl (n, omega arith, h, up_to (λ j. P j → R j n → ⊥) n (λ j lj pj rj. below j lj pj (on j n m rj r)) (λ pn rn. proper n rn))
  with_new n h m l pm below (inr f) = inl (m, omega (arith, l), pm, up_to (λ j. P j → R j m → ⊥) n below (λ pn rn. f rn))

  minimal_more : (n : ℕ) → Dec (P n) → ((a b : ℕ) → Dec (R a b)) → Minimal P R n → Minimal P R (suc n)
  minimal_more n (inl h) r (inl w) = with_new n h w.0 w.1 w.2 w.3 (r n w.0)
  minimal_more n (inl h) r (inr none) = inl (n, omega arith, h, up_to (λ j. P j → R j n → ⊥) n (λ j l pj rj. none j l pj) (λ pn rn. proper n rn))
  minimal_more n (inr f) r (inl w) = inl (w.0, (let l = w.1 in omega (arith, l)), w.2, up_to (λ j. P j → R j w.0 → ⊥) n w.3 (λ pn rn. f pn))
  minimal_more n (inr f) r (inr none) = inr (up_to (λ k. P k → ⊥) n none f)

  pub minimal : ((k : ℕ) → Dec (P k)) → ((a b : ℕ) → Dec (R a b)) → (n : ℕ) → Minimal P R n
  minimal d r zero = inr (λ k l h. absurd (omega (arith, l)))
  minimal d r (suc n) = minimal_more n (d n) r (minimal d r n)

-- ---- how many numbers below n have a property
abbrev pub one_if : {A : Type 0} → Dec A → ℕ
one_if (inl a) = 1
one_if (inr f) = 0

abbrev pub many : {P : ℕ → Type 0} → ((k : ℕ) → Dec (P k)) → ℕ → ℕ
many d zero = 0
many d (suc n) = many d n + one_if (d n)

one_if-le : {A B : Type 0} → (A → B) → (a : Dec A) (b : Dec B) → one_if a ≤ one_if b
one_if-le f (inl a) (inl b) = omega arith
one_if-le f (inl a) (inr g) = absurd (g (f a))
one_if-le f (inr g) (inl b) = omega arith
one_if-le f (inr g) (inr h) = omega arith

one_if-lt : {A B : Type 0} → (A → ⊥) → B → (a : Dec A) (b : Dec B) → one_if a < one_if b
one_if-lt f x (inl a) b = absurd (f a)
one_if-lt f x (inr g) (inl b) = omega arith
one_if-lt f x (inr g) (inr h) = absurd (h x)

module _ (P Q : ℕ → Type 0) (sub : (k : ℕ) → P k → Q k) (d : (k : ℕ) → Dec (P k)) (e : (k : ℕ) → Dec (Q k)) where
  many-le : (n : ℕ) → many d n ≤ many e n
  many-le zero = omega arith
  many-le (suc n) = let rest = many-le n in let here = one_if-le (sub n) (d n) (e n) in omega (arith, rest, here)

  pub many-lt : (n x : ℕ) → x < n → Q x → (P x → ⊥) → many d n < many e n
  many-lt zero x l q np = absurd (omega (arith, l))
  many-lt (suc n) x l q np = by_place (many-lt n x) (cases_eq x n)
    where
      by_place : (x < n → Q x → (P x → ⊥) → many d n < many e n) → (x ≡ n) ⊎ (x ≡ n → ⊥) → many d (suc n) < many e (suc n)
      by_place ih (inl s) = let rest = many-le n in let here = one_if-lt (subst (λ k. P k → ⊥) s np) (subst Q s q) (d n) (e n) in omega (arith, rest, here)
      by_place ih (inr ne) = let rest = ih (omega (arith, l, ne)) q np in let here = one_if-le (sub n) (d n) (e n) in omega (arith, rest, here)

-- ---- whether a list has a number
pub dec_contains : (xs : List ℕ) (x : ℕ) → Dec (Contains xs x)
dec_contains xs x = from (least (λ k. get_or xs k x ≡ x) (λ k. cases_eq (get_or xs k x) x) (length xs))
  where
    from : Least (λ k. get_or xs k x ≡ x) (length xs) → Dec (Contains xs x)
    from (inl w) = inl (w.0, w.1, w.2)
    from (inr none) = inr (λ c. none c.0 c.1 c.2)
