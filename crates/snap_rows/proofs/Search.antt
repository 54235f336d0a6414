-- Where a search among rising entries ends.
use Rattle.std.proofs.Common.{◌≡◌, ℕ, ◌<◌, true, false, List, Some, length, get_or, sym, ap, subst, ◌∙◌, arith, ⊎_elim}
use Rattle.std.specs.Prelude.{slice_get, ◌==◌, ◌&&◌, ◌||◌, nat_lt}
use Rattle.std.specs.Ordering.{nat_cmp, ordering_then}
use Rattle.std.specs.List.Sorted.{IsPartitionedBy, IsPartitionPoint}
use Rattle.std.specs.declared.cmp.Ordering.TheVariants.{Less}
use Rattle.std.proofs.lemmas.Bool.{false≢true, cases_lt}
use Rattle.std.proofs.lemmas.Bool.Decides.{nat_tests}
use Rattle.std.proofs.lemmas.Map.Keys.{Less-from_sorted}
use Rattle.std.proofs.lemmas.Option.{slice_get_within, get_or_from_slice_get}
use Rattle.snap_rows.specs.Places.{Rising, is_before}

-- what is less than an entry stands before what that entry stands before
earlier : (a b a' b' c d : ℕ) → ordering_then (nat_cmp a a') (nat_cmp b b') ≡ Less → (nat_lt a' c || ((a' == c) && nat_lt b' d)) ≡ true → (nat_lt a c || ((a == c) && nat_lt b d)) ≡ true
earlier a b a' b' c d less before = grind (arith, nat_tests, less, before)

-- no entry stands before those of its own numbers
not_before : (a b c d : ℕ) → a ≡ c → b ≡ d → (nat_lt a c || ((a == c) && nat_lt b d)) ≡ true → ⊥
not_before a b c d e f before = grind (arith, nat_tests, before)

less_before : (a b a' b' : ℕ) → ordering_then (nat_cmp a a') (nat_cmp b b') ≡ Less → (nat_lt a a' || ((a == a') && nat_lt b b')) ≡ true
less_before a b a' b' less = grind (arith, nat_tests, less)

module _ {X : Type 0} (f g : X → ℕ) (xs : List X) (rises : Rising f g xs) where
  pub parted : (a b : ℕ) → IsPartitionedBy (is_before f g a b) xs
  parted a b i j d le within before = ⊎_elim
      (λ lt. earlier _ _ _ _ a b (Less-from_sorted _ xs i j d rises lt within) before)
      (λ ge. let same : j ≡ i = omega arith in subst (λ k. is_before f g a b (get_or xs k d) ≡ true) same before)
      (cases_lt i j)

  -- an entry of the numbers stands where the search ends
  pub found_there : (a b i j : ℕ) (x : X) → IsPartitionPoint (λ y. is_before f g a b y ≡ true) (λ y. is_before f g a b y ≡ false) xs i → slice_get xs j ≡ Some x → f x ≡ a → g x ≡ b → j ≡ i
  found_there a b i j x point is first second = ⊎_elim
      (λ lt. absurd (not_before _ _ a b first second (subst (λ y. is_before f g a b y ≡ true) there (point.0 j x (omega arith) lt))))
      (λ ge. ⊎_elim
      (λ lt. absurd (false≢true (sym (point.1 i x (omega arith) (let h : j < length xs = within in omega arith)) ∙ between lt)))
      (λ le. omega arith)
      (cases_lt i j))
      (cases_lt j i)
    where
      within : j < length xs
      within = slice_get_within xs j x is

      there : get_or xs j x ≡ x
      there = get_or_from_slice_get xs j x x is

      between : i < j → is_before f g a b (get_or xs i x) ≡ true
      between lt =
          let less = Less-from_sorted (λ x y. ordering_then (nat_cmp (f x) (f y)) (nat_cmp (g x) (g y))) xs i j x rises lt within in
          let numbers : is_before f g (f (get_or xs j x)) (g (get_or xs j x)) (get_or xs i x) ≡ true = less_before (f (get_or xs i x)) (g (get_or xs i x)) (f (get_or xs j x)) (g (get_or xs j x)) less in
          subst (λ c. is_before f g c b (get_or xs i x) ≡ true) (ap f there ∙ first) (subst (λ c. is_before f g (f (get_or xs j x)) c (get_or xs i x) ≡ true) (ap g there ∙ second) numbers)

  -- two entries of the same numbers are one
  pub one_place : (i j : ℕ) (x y : X) → slice_get xs i ≡ Some x → slice_get xs j ≡ Some y → f x ≡ f y → g x ≡ g y → i ≡ j
  one_place i j x y is there first second = ⊎_elim
      (λ lt. absurd (apart i j x y is there first second lt))
      (λ ge. ⊎_elim (λ lt. absurd (apart j i y x there is (sym first) (sym second) lt)) (λ le. omega arith) (cases_lt j i))
      (cases_lt i j)
    where
      apart : (i j : ℕ) (x y : X) → slice_get xs i ≡ Some x → slice_get xs j ≡ Some y → f x ≡ f y → g x ≡ g y → i < j → ⊥
      apart i j x y is there first second lt =
          let within : j < length xs = slice_get_within xs j y there in
          let before = less_before (f (get_or xs i x)) (g (get_or xs i x)) (f (get_or xs j x)) (g (get_or xs j x)) (Less-from_sorted (λ x y. ordering_then (nat_cmp (f x) (f y)) (nat_cmp (g x) (g y))) xs i j x rises lt within) in
          not_before (f (get_or xs i x)) (g (get_or xs i x)) (f (get_or xs j x)) (g (get_or xs j x)) (ap f (get_or_from_slice_get xs i x x is) ∙ first ∙ ap f (sym (get_or_from_slice_get xs j y x there))) (ap g (get_or_from_slice_get xs i x x is) ∙ second ∙ ap g (sym (get_or_from_slice_get xs j y x there))) before
