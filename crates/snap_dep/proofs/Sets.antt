-- Sets of variables.
use Rattle.std.proofs.Common.{◌≡◌, ◌≢◌, ◌↔◌, ℕ, suc, zero, ◌*◌, ◌%◌, ◌<◌, ◌≤◌, ◌^◌, ◌⊎◌, inl, inr, Bool, true, false, ◌||◌, ◌&&◌, refl, sym, ap, subst, ◌∙◌, arith, bit_or, bit_and, max, min, eqb-true}
use Rattle.std.specs.Prelude.{nat_eq, nat_lt, IsTrue}
use Rattle.std.specs.Int.{bit_at, bit_not}
use Rattle.std.proofs.lemmas.Nat.{and_le_l}
use mir.Syntax.{w64}
use Rattle.std.proofs.lemmas.Bool.{eqb-false, ltb-true, ltb-false, or_cases, or_left, or_right, and_parts, and_from, false≢true}
use Rattle.std.proofs.lemmas.Nat.Bits.{bit_at_or, bit_at_and, bit_at-lt, bit_at-pow_other, bit_at-zero, bit_at_above, bit_at_clear_same, bit_at_clear_other, same_from_bits}
use Rattle.snap_core.specs.declared.policy.Pred.{Pred}
use Rattle.snap_core.specs.declared.policy.Pred.TheVariants.{Id, Drop, Field, State, Not', And', Or'}
use Rattle.snap_core.specs.Fits.{VarsBelow}
use Rattle.snap_core.specs.Meaning.{vars_of}
use Rattle.snap_core.specs.Arrays.{has}
use Rattle.snap_dep.specs.Dependencies.{Tests}
use Rattle.snap_dep.specs.Relations.{IsSetOf}
use Rattle.snap_core.proofs.Framed.{has-zero, has-pow_same}

or_bits : (x y : ℕ) → x < 2 → y < 2 → nat_eq (max x y) 1 ≡ (nat_eq x 1 || nat_eq y 1)
or_bits zero zero p q = refl
or_bits zero (suc zero) p q = refl
or_bits zero (suc (suc y)) p q = absurd (omega (arith, q))
or_bits (suc zero) zero p q = refl
or_bits (suc zero) (suc zero) p q = refl
or_bits (suc zero) (suc (suc y)) p q = absurd (omega (arith, q))
or_bits (suc (suc x)) y p q = absurd (omega (arith, p))

and_bits : (x y : ℕ) → x < 2 → y < 2 → nat_eq (min x y) 1 ≡ (nat_eq x 1 && nat_eq y 1)
and_bits zero zero p q = refl
and_bits zero (suc zero) p q = refl
and_bits zero (suc (suc y)) p q = absurd (omega (arith, q))
and_bits (suc zero) zero p q = refl
and_bits (suc zero) (suc zero) p q = refl
and_bits (suc zero) (suc (suc y)) p q = absurd (omega (arith, q))
and_bits (suc (suc x)) y p q = absurd (omega (arith, p))

pub has-or : (a b v : ℕ) → has (bit_or a b) v ≡ (has a v || has b v)
has-or a b v = ap (λ n. nat_eq n 1) (bit_at_or a b v) ∙ or_bits (bit_at a v) (bit_at b v) (bit_at-lt a v) (bit_at-lt b v)

pub has-and : (a b v : ℕ) → has (bit_and a b) v ≡ (has a v && has b v)
has-and a b v = ap (λ n. nat_eq n 1) (bit_at_and a b v) ∙ and_bits (bit_at a v) (bit_at b v) (bit_at-lt a v) (bit_at-lt b v)

pub has-pow_other : (s v : ℕ) → s ≢ v → has (2 ^ s) v ≡ false
has-pow_other s v ne = ap (λ n. nat_eq n 1) (bit_at-pow_other s v (λ e. ne (sym e)))

-- a set of variables below n has none from n on
pub has-above : (w n v : ℕ) → w < 2 ^ n → n ≤ v → has w v ≡ false
has-above w n v fits past = ap (λ b. nat_eq b 1) (bit_at_above w n v fits past)

-- what is in a set of 64 bits is below 64
pub has-below : (w v : ℕ) → w < 2 ^ 64 → has w v ≡ true → v < 64
has-below w v fits h = by_size (nat_lt v 64) refl
  where
    by_size : (t : Bool) → nat_lt v 64 ≡ t → v < 64
    by_size true e = ltb-true v 64 e
    by_size false e = absurd (false≢true (sym (has-above w 64 v fits (ltb-false v 64 e)) ∙ h))

-- ---- as facts
pub in_or : (a b v : ℕ) → IsTrue (has (bit_or a b) v) ↔ (IsTrue (has a v) ⊎ IsTrue (has b v))
in_or a b v = (λ h. or_cases (has a v) (has b v) (sym (has-or a b v) ∙ h), from)
  where
    from : (IsTrue (has a v) ⊎ IsTrue (has b v)) → IsTrue (has (bit_or a b) v)
    from (inl h) = has-or a b v ∙ or_left (has a v) (has b v) h
    from (inr h) = has-or a b v ∙ or_right (has a v) (has b v) h

pub in_and : (a b v : ℕ) → IsTrue (has (bit_and a b) v) ↔ (IsTrue (has a v) × IsTrue (has b v))
in_and a b v = (λ h. and_parts (has a v) (has b v) (sym (has-and a b v) ∙ h), λ h. has-and a b v ∙ and_from (has a v) (has b v) h.0 h.1)

pub in_zero : (v : ℕ) → ¬ (IsTrue (has 0 v))
in_zero v h = false≢true (sym (has-zero v) ∙ h)

pub in_pow : (s v : ℕ) → IsTrue (has (2 ^ s) v) ↔ (s ≡ v)
in_pow s v = (to, λ e. subst (λ u. has (2 ^ s) u ≡ true) e (has-pow_same s))
  where
    to : has (2 ^ s) v ≡ true → s ≡ v
    to h = by_number (nat_eq s v) refl
      where
        by_number : (t : Bool) → nat_eq s v ≡ t → s ≡ v
        by_number true e = eqb-true s v e
        by_number false e = absurd (false≢true (sym (has-pow_other s v (eqb-false s v e)) ∙ h))

-- ---- sets by what they hold
pub set_or : (P Q : ℕ → Type 0) (a b : ℕ) → IsSetOf P a → IsSetOf Q b → IsSetOf (λ v. P v ⊎ Q v) (bit_or a b)
set_or P Q a b x y v = (λ h. to ((in_or a b v).0 h), from)
  where
    to : (IsTrue (has a v) ⊎ IsTrue (has b v)) → (P v ⊎ Q v)
    to (inl h) = inl ((x v).0 h)
    to (inr h) = inr ((y v).0 h)

    from : (P v ⊎ Q v) → IsTrue (has (bit_or a b) v)
    from (inl h) = (in_or a b v).1 (inl ((x v).1 h))
    from (inr h) = (in_or a b v).1 (inr ((y v).1 h))

pub set_zero : (P : ℕ → Type 0) → ((v : ℕ) → ¬ (P v)) → IsSetOf P 0
set_zero P none v = (λ h. absurd (in_zero v h), λ h. absurd (none v h))

pub set_vars : (x : Pred) → IsSetOf (Tests x) (vars_of x)
set_vars Id = set_zero (Tests Id) (λ v h. h)
set_vars Drop = set_zero (Tests Drop) (λ v h. h)
set_vars (Field c n) = set_zero (Tests (Field c n)) (λ v h. h)
set_vars (State s es a) = in_pow s
set_vars (Not' _ x) = set_vars x
set_vars (And' _ x _ y) = set_or (Tests x) (Tests y) (vars_of x) (vars_of y) (set_vars x) (set_vars y)
set_vars (Or' _ x _ y) = set_or (Tests x) (Tests y) (vars_of x) (vars_of y) (set_vars x) (set_vars y)

pub VarsBelow-le : (m n : ℕ) (x : Pred) → m ≤ n → VarsBelow m x → VarsBelow n x
VarsBelow-le m n Id l f = tt
VarsBelow-le m n Drop l f = tt
VarsBelow-le m n (Field c v) l f = tt
VarsBelow-le m n (State s es a) l f = omega (arith, l, f)
VarsBelow-le m n (Not' _ x) l f = VarsBelow-le m n x l f
VarsBelow-le m n (And' _ x _ y) l f = (VarsBelow-le m n x l f.0, VarsBelow-le m n y l f.1)
VarsBelow-le m n (Or' _ x _ y) l f = (VarsBelow-le m n x l f.0, VarsBelow-le m n y l f.1)

-- ---- an empty set, and a set without one variable
pub no_members : (x : ℕ) → ((v : ℕ) → ¬ (IsTrue (has x v))) → x ≡ 0
no_members x none = same_from_bits x 0 (λ v. zero_at v (nat_eq (bit_at x v) 1) refl ∙ sym (bit_at-zero v))
  where
    zero_at : (v : ℕ) (t : Bool) → nat_eq (bit_at x v) 1 ≡ t → bit_at x v ≡ 0
    zero_at v true e = absurd (none v e)
    zero_at v false e = let small = bit_at-lt x v in let ne = eqb-false (bit_at x v) 1 e in omega (arith, small, ne)

-- what is left of w without k
abbrev pub cleared : ℕ → ℕ → ℕ
cleared w k = bit_and w (bit_not w64 (1 * 2 ^ k % 2 ^ 64))

not_cleared : (w k : ℕ) → k < 64 → ¬ (IsTrue (has (cleared w k) k))
not_cleared w k l h = let one_bit = eqb-true (bit_at (cleared w k) k) 1 h in let none = bit_at_clear_same w64 w k l in omega (arith, one_bit, none)

pub in_cleared : (w k v : ℕ) → w < 2 ^ 64 → k < 64 → IsTrue (has (cleared w k) v) ↔ (IsTrue (has w v) × (v ≢ k))
in_cleared w k v fits l = (
  λ h. (((in_and w (bit_not w64 (1 * 2 ^ k % 2 ^ 64)) v).0 h).0, λ e. not_cleared w k l (subst (λ u. IsTrue (has (cleared w k) u)) e h)),
  λ h. ap (λ b. nat_eq b 1) (bit_at_clear_other w64 w k l v (has-below w v fits h.0) h.1) ∙ h.0,
)

pub cleared-less : (w k : ℕ) → k < 64 → IsTrue (has w k) → cleared w k < w
cleared-less w k l h =
    let le = and_le_l w (bit_not w64 (1 * 2 ^ k % 2 ^ 64)) in
    let ne : cleared w k ≢ w = λ e. not_cleared w k l (subst (λ x. IsTrue (has x k)) (sym e) h) in
    omega (arith, le, ne)
