-- Lists in order with the same elements are equal.
use Rattle.std.proofs.Common.{◌≡◌, ℕ, suc, ◌+◌, ◌≤◌, Bool, true, false, cond, List, [], ◌∷◌, length, get_or, refl, sym, ap, subst, ◌∙◌, arith, is_lt, is_eq, count_by, Ordering, Less, Equal, Greater, IsPermutation, IsSorted}
use Rattle.std.specs.Prelude.{Some, slice_get}
use Rattle.std.specs.List.{AllByRecursion}
use Rattle.std.specs.Ordering.{ordering_reverse, nat_cmp}
use Rattle.std.specs.Cmp.{IsTotalOrder, tied_itself}
use Rattle.std.specs.Cmp.Lexicographic.{slice_cmp, nat_list_cmp_total}
use Rattle.std.specs.FinMap.{slice_cmp-IsAntisymmetric, nat_cmp-IsAntisymmetric}
use Rattle.std.proofs.lemmas.Bool.{both_ways}
use Rattle.std.proofs.lemmas.List.Sorted.{ranks_by, sorted_far, sum_by-IsPermutation}
use Rattle.std.proofs.lemmas.List.Sums.{sum_by-cons}
use Rattle.std.proofs.lemmas.Option.{get_or_from_slice_get, slice_get_within}
use Rattle.snap_core.proofs.Orders.{is_eq-true}

-- lists that are equal at each place are equal
pub same_lists : {X : Type 0} (xs ys : List X) → length xs ≡ length ys → ((i : ℕ) (x y : X) → slice_get xs i ≡ Some x → slice_get ys i ≡ Some y → x ≡ y) → xs ≡ ys
same_lists [] [] long same = refl
same_lists [] (y ∷ ys) long same = absurd (let e : 0 ≡ length (y ∷ ys) = long in omega arith)
same_lists (x ∷ xs) [] long same = absurd (let e : length (x ∷ xs) ≡ 0 = long in omega arith)
same_lists (x ∷ xs) (y ∷ ys) long same =
    let rest = same_lists xs ys (let e : length (x ∷ xs) ≡ length (y ∷ ys) = long in omega arith) (λ i a b p q. same (suc i) a b p q) in
    λ i. same 0 x y refl refl i ∷ rest i

module _ {X : Type 0} (cmp : X → X → Ordering) (order : IsTotalOrder cmp) (exact : (x y : X) → cmp x y ≡ Equal → x ≡ y) where
  -- none is below x
  abbrev Above : X → List X → Type 0
  Above x ys = AllByRecursion (λ y. is_lt (cmp y x) ≡ false) ys

  abbrev Rises : List X → Type 0
  Rises [] = Unit {0}
  Rises (x ∷ xs) = Above x xs × Rises xs

  above_from : (x : X) (xs : List X) → ((i : ℕ) (y : X) → slice_get xs i ≡ Some y → is_lt (cmp y x) ≡ false) → Above x xs
  above_from x [] h = tt
  above_from x (y ∷ ys) h = (h 0 y refl, above_from x ys (λ i z is. h (suc i) z is))

  rises_from : (xs : List X) → ((i j : ℕ) (x y : X) → i ≤ j → slice_get xs i ≡ Some x → slice_get xs j ≡ Some y → is_lt (cmp y x) ≡ false) → Rises xs
  rises_from [] h = tt
  rises_from (x ∷ xs) h = (above_from x xs (λ i y is. h 0 (suc i) x y (omega arith) refl is), rises_from xs (λ i j x y le a b. h (suc i) (suc j) x y (omega arith) a b))

  -- how often x stands in a list
  abbrev times : X → List X → ℕ
  times x ys = count_by (λ y. is_eq (cmp x y)) ys

  times-cons : (x y : X) (ys : List X) → times x (y ∷ ys) ≡ cond (is_eq (cmp x y)) 1 0 + times x ys
  times-cons x y ys = sum_by-cons (λ z. cond (is_eq (cmp x z)) 1 0) y ys

  times-here : (x y : X) (ys : List X) → is_eq (cmp x y) ≡ true → times x (y ∷ ys) ≡ 1 + times x ys
  times-here x y ys e = times-cons x y ys ∙ ap (λ (b : Bool). cond b 1 0 + times x ys) e

  times-other : (x y : X) (ys : List X) → is_eq (cmp x y) ≡ false → times x (y ∷ ys) ≡ 0 + times x ys
  times-other x y ys e = times-cons x y ys ∙ ap (λ (b : Bool). cond b 1 0 + times x ys) e

  times-itself : (x : X) (xs : List X) → times x (x ∷ xs) ≡ 1 + times x xs
  times-itself x xs = times-here x x xs (ap is_eq (tied_itself order x))

  not_below : (x y : X) (ys : List X) → 1 ≤ times x ys → Above y ys → is_lt (cmp x y) ≡ false
  not_below x y [] some above = absurd (let h : 1 ≤ 0 = some in omega arith)
  not_below x y (z ∷ zs) some above = by (is_eq (cmp x z)) refl (λ h. not_below x y zs h above.1)
    where
      by : (b : Bool) → is_eq (cmp x z) ≡ b → (1 ≤ times x zs → is_lt (cmp x y) ≡ false) → is_lt (cmp x y) ≡ false
      by true e rest = subst (λ w. is_lt (cmp w y) ≡ false) (sym (exact x z (is_eq-true (cmp x z) e))) above.0
      by false e rest = rest (omega (arith, times-other x z zs e))

  equal : (x y : X) (o : Ordering) → cmp x y ≡ o → is_lt (cmp x y) ≡ false → is_lt (cmp y x) ≡ false → x ≡ y
  equal x y Less e p q = absurd (both_ways (is_lt (cmp x y)) p (ap is_lt e))
  equal x y Equal e p q = exact x y e
  equal x y Greater e p q = absurd (both_ways (is_lt (cmp y x)) q (ap is_lt (order.antisymm y x ∙ ap ordering_reverse e)))

  same_times : (xs ys : List X) → Rises xs → Rises ys → ((x : X) → times x xs ≡ times x ys) → xs ≡ ys
  same_times [] [] a b same = refl
  same_times [] (y ∷ ys) a b same = absurd (let e : 0 ≡ times y (y ∷ ys) = same y in omega (arith, times-itself y ys))
  same_times (x ∷ xs) [] a b same = absurd (let e : times x (x ∷ xs) ≡ 0 = same x in omega (arith, times-itself x xs))
  same_times (x ∷ xs) (y ∷ ys) a b same =
      let up = not_below x y (y ∷ ys) (omega (arith, times-itself x xs, same x)) (ap is_lt (tied_itself order y), b.0) in
      let down = not_below y x (x ∷ xs) (omega (arith, times-itself y ys, same y)) (ap is_lt (tied_itself order x), a.0) in
      let head : x ≡ y = equal x y (cmp x y) refl up down in
      let tails : xs ≡ ys = same_times xs ys a.1 b.1 (λ z. cut z x y xs ys (ap (λ w. cond (is_eq (cmp z w)) 1 0) head) (same z)) in
      λ i. head i ∷ tails i
    where
      cut : (z x y : X) (xs ys : List X) → ◌≡◌ {A = ℕ} (cond (is_eq (cmp z x)) 1 0) (cond (is_eq (cmp z y)) 1 0) → times z (x ∷ xs) ≡ times z (y ∷ ys) → times z xs ≡ times z ys
      cut z x y xs ys first e = omega (arith, times-cons z x xs, times-cons z y ys, first, e)

  rises_sorted : (xs : List X) → IsSorted cmp xs → Rises xs
  rises_sorted xs sorted = rises_from xs (λ i j x y le a b.
      let later = get_or_from_slice_get xs j y x b in let earlier = get_or_from_slice_get xs i x x a in
      let same : is_lt (cmp (get_or xs j x) (get_or xs i x)) ≡ is_lt (cmp y x) = λ k. is_lt (cmp (later k) (earlier k)) in
      sym same ∙ sorted_far (λ v w. is_lt (cmp v w)) (ranks_by order (λ z. z)) xs sorted i j x le (slice_get_within xs j y b))

  pub same_in_order : (xs ys : List X) → IsSorted cmp xs → IsSorted cmp ys → IsPermutation xs ys → xs ≡ ys
  same_in_order xs ys a b moved = same_times xs ys (rises_sorted xs a) (rises_sorted ys b) (λ x. sym (sum_by-IsPermutation (λ y. cond (is_eq (cmp x y)) 1 0) xs ys moved))

-- so are lists of packets
pub same_packets_in_order : (xs ys : List (List ℕ)) → IsSorted (slice_cmp nat_cmp) xs → IsSorted (slice_cmp nat_cmp) ys → IsPermutation xs ys → xs ≡ ys
same_packets_in_order = same_in_order (slice_cmp nat_cmp) nat_list_cmp_total (slice_cmp-IsAntisymmetric nat_cmp-IsAntisymmetric)
