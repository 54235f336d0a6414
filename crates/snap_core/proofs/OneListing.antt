-- A store has one listing at most.
use Rattle.std.proofs.Common.{◌≡◌, ◌≢◌, Bool, true, false, cond, List, [], ◌∷◌, refl, sym, ap, subst, ◌∙◌, arith}
use Rattle.std.specs.List.{AllByRecursion}
use Rattle.std.specs.List.Sorted.{IsStrictlySortedBy}
use Rattle.std.specs.Ordering.{ordering_reverse, is_eq}
use Rattle.std.specs.Cmp.{tied_itself}
use Rattle.std.specs.declared.cmp.Ordering.{Ordering}
use Rattle.std.specs.declared.cmp.Ordering.TheVariants.{Less, Equal, Greater}
use Rattle.std.proofs.lemmas.Bool.{cond-true, cond-false, both_ways, false_from_ne_true}
use Rattle.std.proofs.lemmas.List.Elements.{All-tail}
use Rattle.snap_core.specs.declared.place.Place.{Place}
use Rattle.snap_core.specs.declared.place.Entry.{Entry}
use Rattle.snap_core.specs.Arrays.{same_place}
use Rattle.snap_core.specs.Listing.{place_cmp, number_in}
use Rattle.snap_core.proofs.Entries.{NoZero, places}
use Rattle.snap_core.proofs.Places.{place_total, place_exact, same_place-exact, same_place-itself}

-- a place below another is another place
apart : (p q : Place) → place_cmp p q ≡ Less → same_place q p ≡ false
apart p q less =
    false_from_ne_true (same_place q p) (λ same.
    let tied : place_cmp p q ≡ Equal = ap (place_cmp p) (same_place-exact q p same) ∙ tied_itself place_total p in
    both_ways (is_eq (place_cmp p q)) (ap is_eq less) (ap is_eq tied))

below : (p q : Place) → place_cmp p q ≡ Less → (rs : List Place) → AllByRecursion (λ r. place_cmp q r ≡ Less) rs → AllByRecursion (λ r. place_cmp p r ≡ Less) rs
below p q less [] h = tt
below p q less (r ∷ rs) h = (place_total.trans p q r less h.0, below p q less rs h.1)

-- ---- the number at a place
-- it is 0 below all entries
number-below : (p : Place) (es : List Entry) → AllByRecursion (λ q. place_cmp p q ≡ Less) (places es) → number_in es p ≡ 0
number-below p [] h = refl
number-below p (e ∷ es) h = ap (λ t. cond t e.value (number_in es p)) (apart p e.place h.0) ∙ number-below p es h.1

number-head : (e : Entry) (es : List Entry) → number_in (e ∷ es) e.place ≡ e.value
number-head e es = cond-true (same_place e.place e.place) e.value (number_in es e.place) (same_place-itself e.place)

-- the later entries give the same numbers where all entries do and the first ones have one place
number-tails : (e f : Entry) (es fs : List Entry) → e.place ≡ f.place → AllByRecursion (λ q. place_cmp e.place q ≡ Less) (places es) → AllByRecursion (λ q. place_cmp f.place q ≡ Less) (places fs)
    → ((p : Place) → number_in (e ∷ es) p ≡ number_in (f ∷ fs) p) → (p : Place) → number_in es p ≡ number_in fs p
number-tails e f es fs place a b same p = by_place (same_place e.place p) refl
  where
    by_place : (t : Bool) → same_place e.place p ≡ t → number_in es p ≡ number_in fs p
    by_place true h =
        let here : e.place ≡ p = same_place-exact e.place p h in
        subst (λ q. number_in es q ≡ 0) here (number-below e.place es a)
        ∙ sym (subst (λ q. number_in fs q ≡ 0) (sym place ∙ here) (number-below f.place fs b))
    by_place false h =
        sym (cond-false _ e.value (number_in es p) h)
        ∙ same p
        ∙ cond-false _ f.value (number_in fs p) (ap (λ q. same_place q p) (sym place) ∙ h)

-- ---- lists of entries
-- first entries at one place, and what follows from equal numbers behind them
heads : (e f : Entry) (es fs : List Entry) → AllByRecursion (λ q. place_cmp e.place q ≡ Less) (places es) → AllByRecursion (λ q. place_cmp f.place q ≡ Less) (places fs) → e.value ≢ 0 → f.value ≢ 0
    → ((p : Place) → number_in (e ∷ es) p ≡ number_in (f ∷ fs) p) → (((p : Place) → number_in es p ≡ number_in fs p) → es ≡ fs) → (o : Ordering) → place_cmp e.place f.place ≡ o → e ∷ es ≡ f ∷ fs
heads e f es fs a b x y same rest Less h =
    absurd (x (sym (number-head e es) ∙ same e.place ∙ number-below e.place (f ∷ fs) (h, below e.place f.place h (places fs) b)))
heads e f es fs a b x y same rest Greater h =
    let less : place_cmp f.place e.place ≡ Less = place_total.antisymm f.place e.place ∙ ap ordering_reverse h in
    absurd (y (sym (number-head f fs) ∙ sym (same f.place) ∙ number-below f.place (e ∷ es) (less, below f.place e.place less (places es) a)))
heads e f es fs a b x y same rest Equal h =
    let place : e.place ≡ f.place = place_exact e.place f.place h in
    let value : e.value ≡ f.value = sym (number-head e es) ∙ same e.place ∙ ap (number_in (f ∷ fs)) place ∙ number-head f fs in
    let tails : es ≡ fs = rest (number-tails e f es fs place a b same) in
    λ i. record { place = place i; value = value i } ∷ tails i

pub one_listing : (es fs : List Entry) → IsStrictlySortedBy place_cmp (places es) → IsStrictlySortedBy place_cmp (places fs) → NoZero es → NoZero fs → ((p : Place) → number_in es p ≡ number_in fs p) → es ≡ fs
unfolding IsStrictlySortedBy
one_listing [] [] a b x y same = refl
one_listing [] (f ∷ fs) a b x y same = absurd (y 0 f (omega arith) (sym (number-head f fs) ∙ sym (same f.place)))
one_listing (e ∷ es) [] a b x y same = absurd (x 0 e (omega arith) (sym (number-head e es) ∙ same e.place))
one_listing (e ∷ es) (f ∷ fs) a b x y same =
    heads e f es fs a.0 b.0 (x 0 e (omega arith)) (y 0 f (omega arith)) same
    (one_listing es fs a.1 b.1 (All-tail (λ (e : Entry). e.value ≢ 0) e es x) (All-tail (λ (e : Entry). e.value ≢ 0) f fs y)) (place_cmp e.place f.place) refl
