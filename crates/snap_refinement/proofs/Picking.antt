-- Sets that were made in an order, by the numbers of their packets.
use Rattle.std.proofs.Common.{◌≡◌, ℕ, ◌+◌, ◌<◌, true, false, eqb, List, length, get_or, Some, refl, sym, ap, subst, ◌∙◌, ⊎_elim, arith, IsPermutation}
use Rattle.std.specs.Prelude.{slice_get}
use Rattle.std.specs.List.{Contains, IsDistinct, range_with_len}
use Rattle.std.proofs.lemmas.Bool.{cases_order, eq-eqb, ne_eqb}
use Rattle.std.proofs.lemmas.List.Elements.{Contains-get_or}
use Rattle.std.proofs.lemmas.List.FromFn.{get_or-range_with_len, length-range_with_len}
use Rattle.std.proofs.lemmas.List.Sorted.{Contains-permutation, IsPermutation-sym}
use Rattle.std.proofs.lemmas.Map.Keys.{IsDistinct-IsPermutation, IsDistinct-from_apart, apart_from_distinct}
use Rattle.std.proofs.lemmas.Option.{get_or_from_slice_get, same_Some, slice_get-get_or, slice_get_read, slice_get_within}
use Rattle.snap_core.specs.Packets.{PacketSet, no_packets}
use Rattle.snap_runs.proofs.Choosing.{choose}
use Rattle.snap_refinement.specs.InOrder.{IsMadeOf}

-- ---- each number has one place in the order
module _ (order : List ℕ) (n : ℕ) (perm : IsPermutation order (range_with_len 0 n)) where
  pub place_of : (i : ℕ) → i < n → (j : ℕ) × (slice_get order j ≡ Some i)
  place_of i low =
      let there : Contains (range_with_len 0 n) i =
      subst (Contains (range_with_len 0 n)) (get_or-range_with_len 0 n i 0 low ∙ (let e : 0 + i ≡ i = omega arith in e)) (Contains-get_or (range_with_len 0 n) i 0 (let e = length-range_with_len 0 n in omega (arith, e, low))) in
      let here : Contains order i = Contains-permutation (range_with_len 0 n) order i (IsPermutation-sym order (range_with_len 0 n) perm) there in
      (here.0, slice_get_read order (length order) here.0 i refl here.1 (sym here.2))

  flips : (x y : ℕ) → eqb x y ≡ eqb y x
  flips x y = ⊎_elim
      (λ e. eq-eqb x y e ∙ sym (eq-eqb y x (sym e)))
      (λ d. let away : x ≡ y → ⊥ = (λ e. ⊎_elim (λ (l : x < y). omega (arith, e, l)) (λ (l : y < x). omega (arith, e, l)) d) in ne_eqb x y away ∙ sym (ne_eqb y x (λ e. away (sym e))))
      (cases_order x y)

  apart : IsDistinct eqb order
  apart =
      IsDistinct-IsPermutation eqb flips (range_with_len 0 n) order (IsPermutation-sym order (range_with_len 0 n) perm)
      (IsDistinct-from_apart eqb (range_with_len 0 n) (λ i j d low within.
      let long = length-range_with_len 0 n in
      let a : get_or (range_with_len 0 n) i d ≡ 0 + i = get_or-range_with_len 0 n i d (omega (arith, low, within, long)) in
      let b : get_or (range_with_len 0 n) j d ≡ 0 + j = get_or-range_with_len 0 n j d (omega (arith, within, long)) in
      ne_eqb _ _ (λ same. omega (arith, a, b, same, low))))

  not_before : (j l i : ℕ) → slice_get order j ≡ Some i → slice_get order l ≡ Some i → j < l → ⊥
  not_before j l i a b low =
      let differ = apart_from_distinct eqb order j l 0 apart low (slice_get_within order l i b) in
      let same : eqb (get_or order j 0) (get_or order l 0) ≡ true = eq-eqb _ _ (get_or_from_slice_get order j i 0 a ∙ sym (get_or_from_slice_get order l i 0 b)) in
      absurd (let e : true ≡ false = sym same ∙ differ in cc)

  pub one_place : (j l i : ℕ) → slice_get order j ≡ Some i → slice_get order l ≡ Some i → j ≡ l
  one_place j l i a b = let u = not_before j l i a b in let v = not_before l j i b a in omega (arith, u, v)

  -- the sets by number
  pub by_number : (sets : List PacketSet) → length sets ≡ length order → (became : List PacketSet) × (length became ≡ n) × ((i : ℕ) (set : PacketSet) → slice_get became i ≡ Some set → IsMadeOf order sets i set)
  by_number sets long = choose (IsMadeOf order sets) n (λ i low.
      let at = place_of i low in
      (get_or sets at.0 no_packets, (at.0, at.1, slice_get-get_or sets at.0 no_packets (let w = slice_get_within order at.0 i at.1 in omega (arith, w, long)))))

  -- they are determined
  pub one_set : (sets : List PacketSet) (i : ℕ) (x y : PacketSet) → IsMadeOf order sets i x → IsMadeOf order sets i y → x ≡ y
  one_set sets i x y a b =
      let place = one_place a.0 b.0 i a.1 b.1 in
      same_Some x y (sym a.2 ∙ ap (slice_get sets) place ∙ b.2)
