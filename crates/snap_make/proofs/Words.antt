-- Words of sets of switches.
use Rattle.std.proofs.Common.{◌≡◌, ℕ, zero, suc, ◌<◌, ◌/◌, ◌%◌, ◌^◌, Bool, true, false, List, [], ◌∷◌, length, refl, sym, ap, subst, ◌∙◌, arith, bit_or, slice_set}
use Rattle.std.specs.Prelude.{nat_eq, slice_index, ◌||◌}
use Rattle.std.proofs.lemmas.Bool.{eqb-true, eqb-false, eq-eqb, ne_eqb}
use Rattle.std.proofs.lemmas.List.{get_or-set_same, get_or-set_other}
use Rattle.std.proofs.Math.ListN.{get_or-eq_default}
use Rattle.snap_core.specs.Arrays.{has}
use Rattle.snap_core.proofs.Framed.{has-zero, has-pow_same}
use Rattle.snap_dep.proofs.Sets.{has-or, has-pow_other}
use Rattle.snap_make.specs.Marks.{has_switch}

zeros : (i : ℕ) → slice_index (0 ∷ 0 ∷ 0 ∷ 0 ∷ []) i ≡ 0
zeros zero = refl
zeros (suc zero) = refl
zeros (suc (suc zero)) = refl
zeros (suc (suc (suc zero))) = refl
zeros (suc (suc (suc (suc i)))) = refl

pub none_has : (v : ℕ) → has_switch (record { words = 0 ∷ 0 ∷ 0 ∷ 0 ∷ [] }) v ≡ false
unfolding has_switch
none_has v = ap (λ n. has n (v % 64)) (zeros (v / 64)) ∙ has-zero (v % 64)

-- one more bit
one_more : (ws : List ℕ) (at : ℕ) → at / 64 < length ws → (v : ℕ)
    → has_switch (record { words = slice_set ws (at / 64) (bit_or (2 ^ (at % 64)) (slice_index ws (at / 64))) }) v ≡ (nat_eq v at || has_switch (record { words = ws }) v)
unfolding has_switch
one_more ws at low v = by (nat_eq (v / 64) (at / 64)) refl
  where
    one : (b : Bool) → nat_eq (v % 64) (at % 64) ≡ b → v / 64 ≡ at / 64 → has (2 ^ (at % 64)) (v % 64) ≡ nat_eq v at
    one true e same = subst (λ n. has (2 ^ (at % 64)) n ≡ true) (sym (eqb-true (v % 64) (at % 64) e)) (has-pow_same (at % 64)) ∙ sym (eq-eqb v at (let f = eqb-true (v % 64) (at % 64) e in omega (arith, f, same)))
    one false e same = has-pow_other (at % 64) (v % 64) (λ f. eqb-false (v % 64) (at % 64) e (sym f)) ∙ sym (ne_eqb v at (λ f. eqb-false (v % 64) (at % 64) e (ap (λ n. n % 64) f)))

    by : (b : Bool) → nat_eq (v / 64) (at / 64) ≡ b → has (slice_index (slice_set ws (at / 64) (bit_or (2 ^ (at % 64)) (slice_index ws (at / 64)))) (v / 64)) (v % 64) ≡ (nat_eq v at || has (slice_index ws (v / 64)) (v % 64))
    by true e =
        let same = eqb-true (v / 64) (at / 64) e in
        ap (λ i. has (slice_index (slice_set ws (at / 64) (bit_or (2 ^ (at % 64)) (slice_index ws (at / 64)))) i) (v % 64)) same
        ∙ ap (λ n. has n (v % 64)) (get_or-set_same ws (at / 64) (bit_or (2 ^ (at % 64)) (slice_index ws (at / 64))) 0 low)
        ∙ has-or (2 ^ (at % 64)) (slice_index ws (at / 64)) (v % 64)
        ∙ ap (λ b. b || has (slice_index ws (at / 64)) (v % 64)) (one (nat_eq (v % 64) (at % 64)) refl same)
        ∙ ap (λ i. nat_eq v at || has (slice_index ws i) (v % 64)) (sym same)
    by false e =
        let other = eqb-false (v / 64) (at / 64) e in
        ap (λ n. has n (v % 64)) (get_or-set_other ws (at / 64) (v / 64) (bit_or (2 ^ (at % 64)) (slice_index ws (at / 64))) 0 other)
        ∙ ap (λ b. b || has (slice_index ws (v / 64)) (v % 64)) (sym (ne_eqb v at (λ f. other (ap (λ n. n / 64) f))))

pub with_has : (ws : List ℕ) (at b : ℕ) → b ≡ 2 ^ (at % 64) → at / 64 < length ws → (v : ℕ)
    → has_switch (record { words = slice_set ws (at / 64) (bit_or b (slice_index ws (at / 64))) }) v ≡ (nat_eq v at || has_switch (record { words = ws }) v)
with_has ws at b is low v = ap (λ x. has_switch (record { words = slice_set ws (at / 64) (bit_or x (slice_index ws (at / 64))) }) v) is ∙ one_more ws at low v

-- two words of each place
joined : (a b : List ℕ) → length a ≡ 4 → length b ≡ 4 → (i : ℕ)
    → slice_index (bit_or (slice_index a 0) (slice_index b 0) ∷ bit_or (slice_index a 1) (slice_index b 1) ∷ bit_or (slice_index a 2) (slice_index b 2) ∷ bit_or (slice_index a 3) (slice_index b 3) ∷ []) i
    ≡ bit_or (slice_index a i) (slice_index b i)
joined a b la lb zero = refl
joined a b la lb (suc zero) = refl
joined a b la lb (suc (suc zero)) = refl
joined a b la lb (suc (suc (suc zero))) = refl
joined a b la lb (suc (suc (suc (suc i)))) =
    sym (ap (λ x. bit_or x (slice_index b (suc (suc (suc (suc i)))))) (get_or-eq_default a 0 (let n = la in omega (arith, n))) ∙ ap (bit_or 0) (get_or-eq_default b 0 (let n = lb in omega (arith, n))))

pub both_has : (a b : List ℕ) → length a ≡ 4 → length b ≡ 4 → (v : ℕ)
    → has_switch (record { words = bit_or (slice_index a 0) (slice_index b 0) ∷ bit_or (slice_index a 1) (slice_index b 1) ∷ bit_or (slice_index a 2) (slice_index b 2) ∷ bit_or (slice_index a 3) (slice_index b 3) ∷ [] }) v
    ≡ (has_switch (record { words = a }) v || has_switch (record { words = b }) v)
unfolding has_switch
both_has a b la lb v = ap (λ n. has n (v % 64)) (joined a b la lb (v / 64)) ∙ has-or (slice_index a (v / 64)) (slice_index b (v / 64)) (v % 64)
