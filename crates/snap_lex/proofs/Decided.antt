-- Of properties of numbers, bytes and texts one can tell whether they hold.
use Rattle.std.proofs.Common.{◌≡◌, ℕ, zero, suc, ◌<◌, ◌≤◌, ◌⊎◌, List, [], ◌∷◌, Bool, true, false, refl, subst, inl, inr, arith}
use Rattle.std.proofs.Math.Decide.{map_dec, ℕ_discrete}
use Rattle.std.proofs.lemmas.Bool.{cases_lt}
use Rattle.snap_lex.proofs.Forms.{OfEach}

pub both : {P Q : Type 0} → Dec P → Dec Q → Dec (P × Q)
both (yes h) (yes k) = yes (h, k)
both (yes h) (no f) = no (λ x. f x.1)
both (no f) k = no (λ x. f x.0)

neither : {P Q : Type 0} → (P → ⊥) → (Q → ⊥) → P ⊎ Q → ⊥
neither f g (inl h) = f h
neither f g (inr k) = g k

pub either : {P Q : Type 0} → Dec P → Dec Q → Dec (P ⊎ Q)
either (yes h) k = yes (inl h)
either (no f) (yes k) = yes (inr k)
either (no f) (no g) = no (neither f g)

pub is_true : (b : Bool) → Dec (b ≡ true)
is_true true = yes refl
is_true false = no (λ e. absurd (cc))

pub same_text : (xs ys : List ℕ) → Dec (xs ≡ ys)
same_text [] [] = yes refl
same_text [] (y ∷ ys) = no (λ e. absurd (cc))
same_text (x ∷ xs) [] = no (λ e. absurd (cc))
same_text (x ∷ xs) (y ∷ ys) = map_dec joined parts (both (ℕ_discrete x y) (same_text xs ys))
  where
    joined : (x ≡ y) × (xs ≡ ys) → x ∷ xs ≡ y ∷ ys
    joined h = let first = h.0 in let more = h.1 in cc

    parts : x ∷ xs ≡ y ∷ ys → (x ≡ y) × (xs ≡ ys)
    parts e = (cc, cc)

-- the greatest number up to a bound of which a property holds, or it holds of none
pub data Greatest (P : ℕ → Type 0) (most : ℕ) : Type 0 where
  greatest : (n : ℕ) → P n → ((m : ℕ) → m ≤ most → P m → m ≤ n) → Greatest P most
  none : ((m : ℕ) → m ≤ most → P m → ⊥) → Greatest P most

module _ (P : ℕ → Type 0) where
  one_more : (n : ℕ) → Dec (P n) → Dec ((i : ℕ) → i < n → P i) → Dec ((i : ℕ) → i < suc n → P i)
  one_more n (no f) below = no (λ all. f (all n (omega arith)))
  one_more n (yes here) (no f) = no (λ all. f (λ i h. all i (omega arith)))
  one_more n (yes here) (yes below) = yes (λ i h. elim (cases_lt i n) [ inl less ↦ below i less | inr more ↦ let same : n ≡ i = omega arith in subst P same here ])

  -- whether it holds of all numbers below a bound
  pub all_below : ((n : ℕ) → Dec (P n)) → (n : ℕ) → Dec ((i : ℕ) → i < n → P i)
  all_below decide zero = yes (λ i h. absurd (omega arith))
  all_below decide (suc n) = one_more n (decide n) (all_below decide n)

  begin : Dec (P zero) → Greatest P zero
  begin (yes h) = greatest zero h (λ m within k. within)
  begin (no f) = none (λ m within k. let same : m ≡ zero = omega arith in f (subst P same k))

  next : (n : ℕ) → Dec (P (suc n)) → Greatest P n → Greatest P (suc n)
  next n (yes h) before = greatest (suc n) h (λ m within k. within)
  next n (no f) (greatest g h most) =
      greatest g h (λ m within k. elim (cases_lt m (suc n)) [ inl less ↦ most m (omega arith) k | inr more ↦ let same : m ≡ suc n = omega arith in absurd (f (subst P same k)) ])
  next n (no f) (none never) =
      none (λ m within k. elim (cases_lt m (suc n)) [ inl less ↦ never m (omega arith) k | inr more ↦ let same : m ≡ suc n = omega arith in f (subst P same k) ])

  pub find : ((n : ℕ) → Dec (P n)) → (most : ℕ) → Greatest P most
  find decide zero = begin (decide zero)
  find decide (suc most) = next most (decide (suc most)) (find decide most)

-- one of these of which it holds, or it holds of none
pub tried : {A : Type 0} (P : A → Type 0) → ((x : A) → Dec (P x)) → (xs : List A) → ((x : A) × P x) ⊎ OfEach (λ x. P x → ⊥) xs
tried P decide [] = inr tt
tried P decide (x ∷ xs) = first (decide x) (tried P decide xs)
  where
    first : Dec (P x) → ((y : _) × P y) ⊎ OfEach (λ x. P x → ⊥) xs → ((y : _) × P y) ⊎ OfEach (λ x. P x → ⊥) (x ∷ xs)
    first (yes h) more = inl (x, h)
    first (no f) (inl y) = inl y
    first (no f) (inr others) = inr (f, others)
