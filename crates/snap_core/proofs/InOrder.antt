-- Listed places, put in order.
use Rattle.std.proofs.Common.{◌≡◌, ◌≢◌, ℕ, ◌+◌, Bool, true, false, cond, List, [], ◌∷◌, map, refl, sym, ap, subst, ◌∙◌, arith}
use Rattle.std.specs.Prelude.{nat_eq, unwrap_or, slice_index_or}
use Rattle.std.specs.List.{All, AllByRecursion, IsDistinct}
use Rattle.std.specs.List.Sorted.{IsPermutation, IsSorted, IsStrictlySortedBy}
use Rattle.std.specs.Map.{keys_of, lookup}
use Rattle.std.specs.Str.{bytes_eq}
use Rattle.std.specs.Ordering.{ordering_reverse, is_lt}
use Rattle.std.specs.Cmp.{IsTotalOrder}
use Rattle.std.specs.declared.cmp.Ordering.{Ordering}
use Rattle.std.specs.declared.cmp.Ordering.TheVariants.{Less, Equal, Greater}
use Rattle.std.proofs.lemmas.Bool.{both_ways, eqb-true}
use Rattle.std.proofs.lemmas.Cmp.{on_total}
use Rattle.std.proofs.lemmas.List.Sorted.{IsPermutation-map, All-permutation}
use Rattle.std.proofs.lemmas.Map.Keys.{IsDistinct-IsPermutation, apart_from_distinct, sorted_from_all_adjacent}
use Rattle.snap_core.specs.declared.place.Place.{Place}
use Rattle.snap_core.specs.declared.place.Entry.{Entry}
use Rattle.snap_core.specs.declared.place.Listed.{Listed}
use Rattle.snap_core.specs.Arrays.{Arrays, same_place}
use Rattle.snap_core.specs.Cells.{Kept, array_at, arrays_of}
use Rattle.snap_core.specs.Listing.{place_cmp, number_in, array_of, entries_of, entry_of, listed_cmp, IsListing, IsArrayListing}
use Rattle.snap_core.proofs.CellMerge.{lookup-reordered, unwrap-cond}
use Rattle.snap_core.proofs.Entries.{places, NoZero, NoZero-entries_of, arrays-entries_of, IsDistinct-entries_of, number-here, number-other}
use Rattle.snap_core.proofs.Places.{place_total, place_exact, same_place-exact, same_place-itself, same_place-flips, same_place_equiv}

-- ---- lists of values with a key
unmapped : {X Y : Type 0} (f : X → Y) (P : Y → Type 0) (xs : List X) → AllByRecursion P (map f xs) → AllByRecursion (λ x. P (f x)) xs
unmapped f P [] h = h
unmapped f P (x ∷ xs) h = (h.0, unmapped f P xs h.1)

mapped : {X Y : Type 0} (f : X → Y) (P : Y → Type 0) (xs : List X) → AllByRecursion (λ x. P (f x)) xs → AllByRecursion P (map f xs)
mapped f P [] h = h
mapped f P (x ∷ xs) h = (h.0, mapped f P xs h.1)

IsDistinct-unmapped : {X Y : Type 0} (f : X → Y) (e : Y → Y → Bool) (xs : List X) → IsDistinct e (map f xs) → IsDistinct (λ x y. e (f x) (f y)) xs
unfolding IsDistinct
IsDistinct-unmapped f e [] h = h
IsDistinct-unmapped f e (x ∷ xs) h = (unmapped f (λ y. e (f x) y ≡ false) xs h.0, IsDistinct-unmapped f e xs h.1)

sorted-mapped : {X Y : Type 0} (f : X → Y) (R : Y → Y → Ordering) (xs : List X) → IsStrictlySortedBy (λ x y. R (f x) (f y)) xs → IsStrictlySortedBy R (map f xs)
unfolding IsStrictlySortedBy
sorted-mapped f R [] h = h
sorted-mapped f R (x ∷ xs) h = (mapped f (λ y. R (f x) y ≡ Less) xs h.0, sorted-mapped f R xs h.1)

-- values that are in order and differ rise
rising : {K : Type 0} {R : K → K → Ordering} → IsTotalOrder R → (e : K → K → Bool) → ((x y : K) → R x y ≡ Equal → e x y ≡ true) → (ks : List K) → IsSorted R ks → IsDistinct e ks → IsStrictlySortedBy R ks
unfolding IsStrictlySortedBy
rising order e exact [] sorted distinct = tt
rising {K} {R} order e exact (k ∷ ks) sorted distinct =
    sorted_from_all_adjacent order (k ∷ ks) k (λ i within.
    let x = slice_index_or (k ∷ ks) i k in let y = slice_index_or (k ∷ ks) (i + 1) k in
    less x y (R x y) refl (sorted i k (omega arith) within) (apart_from_distinct e (k ∷ ks) i (i + 1) k distinct (omega arith) within))
  where
    less : (x y : K) (o : Ordering) → R x y ≡ o → is_lt (R y x) ≡ false → e x y ≡ false → R x y ≡ Less
    less x y Less h sorted apart = h
    less x y Equal h sorted apart = absurd (both_ways (e x y) apart (exact x y h))
    less x y Greater h sorted apart = absurd (both_ways (is_lt (R y x)) sorted (ap is_lt (order.antisymm y x ∙ ap ordering_reverse h)))

-- ---- the same entries in another order
abbrev numbered : List Entry → List (Place × ℕ)
numbered es = map (λ e. (e.place, e.value)) es

places-numbered : (es : List Entry) → keys_of (numbered es) ≡ places es
places-numbered [] = refl
places-numbered (e ∷ es) = ap (λ l. e.place ∷ l) (places-numbered es)

number-lookup : (es : List Entry) (p : Place) → number_in es p ≡ unwrap_or (lookup (same_place p) (numbered es)) 0
number-lookup [] p = refl
number-lookup (e ∷ es) p =
    (λ i. cond (same_place-flips e.place p i) e.value (number-lookup es p i))
    ∙ sym (unwrap-cond (same_place p e.place) e.value (lookup (same_place p) (numbered es)) 0)

IsDistinct-reordered : (es fs : List Entry) → IsPermutation es fs → IsDistinct same_place (places es) → IsDistinct same_place (places fs)
IsDistinct-reordered es fs moved distinct = IsDistinct-IsPermutation same_place same_place-flips (places es) (places fs) (IsPermutation-map (λ (e : Entry). e.place) es fs moved) distinct

number-reordered : (es fs : List Entry) → IsPermutation es fs → IsDistinct same_place (places es) → (p : Place) → number_in fs p ≡ number_in es p
number-reordered es fs moved distinct p =
    number-lookup fs p
    ∙ ap (λ o. unwrap_or o 0)
    (lookup-reordered same_place_equiv same_place-exact (numbered es) (numbered fs) (IsPermutation-map (λ (e : Entry). (e.place, e.value)) es fs moved)
    (subst (IsDistinct same_place) (sym (places-numbered fs)) (IsDistinct-reordered es fs moved distinct)) p)
    ∙ sym (number-lookup es p)

-- ---- what a store lists
pub listed_total : IsTotalOrder listed_cmp
listed_total = on_total (λ (l : Listed). (entry_of l).place) place_total

tied : (a b : Listed) → listed_cmp a b ≡ Equal → same_place (entry_of a).place (entry_of b).place ≡ true
tied a b h = ap (same_place (entry_of a).place) (sym (place_exact (entry_of a).place (entry_of b).place h)) ∙ same_place-itself (entry_of a).place

-- the places of m that don't hold 0, put in order
pub IsListing-sorted : (m : Arrays) (ls ms : List Listed) → IsDistinct same_place (places (map entry_of ls)) → NoZero (map entry_of ls) → ((p : Place) → number_in (map entry_of ls) p ≡ m p) → IsPermutation ls ms → IsSorted listed_cmp ms → IsListing m (map entry_of ms)
IsListing-sorted m ls ms distinct some numbers moved sorted =
    let es = map entry_of ls in let fs = map entry_of ms in
    let reordered : IsPermutation es fs = IsPermutation-map entry_of ls ms moved in
    let apart = IsDistinct-reordered es fs reordered distinct in
    let apart_listed = IsDistinct-unmapped entry_of (λ (e f : Entry). same_place e.place f.place) ms (IsDistinct-unmapped (λ (e : Entry). e.place) same_place fs apart) in
    record {
      rising = sorted-mapped (λ (e : Entry). e.place) place_cmp fs (sorted-mapped entry_of (λ (e f : Entry). place_cmp e.place f.place) ms (rising listed_total (λ a b. same_place (entry_of a).place (entry_of b).place) tied ms sorted apart_listed));
      nonzero = All-permutation (λ (e : Entry). e.value ≢ 0) es fs reordered some;
      numbers = λ p. number-reordered es fs reordered distinct p ∙ numbers p;
    }

-- those of one array
pub IsArrayListing-sorted : (s : ℕ) (m : Kept) (ls ms : List Listed) → IsDistinct bytes_eq (keys_of (array_at m s).0) → map entry_of ls ≡ entries_of s (array_at m s).0 → IsPermutation ls ms → IsSorted listed_cmp ms → IsArrayListing s (arrays_of m) (map entry_of ms)
IsArrayListing-sorted s m ls ms distinct all moved sorted =
    let cs = (array_at m s).0 in
    let each = λ (Q : List Entry → Type 0) (q : Q (entries_of s cs)). subst Q (sym all) q in
    record {
      listing = IsListing-sorted (array_of s (arrays_of m)) ls ms
          (each (λ es. IsDistinct same_place (places es)) (IsDistinct-entries_of s cs distinct))
          (each NoZero (NoZero-entries_of s cs))
          (λ p. ap (λ es. number_in es p) all ∙ number p (nat_eq s p.var) refl)
          moved sorted;
      arrays = All-permutation (λ (e : Entry). e.place.var ≡ s) (map entry_of ls) (map entry_of ms) (IsPermutation-map entry_of ls ms moved) (each (All (λ e. e.place.var ≡ s)) (arrays-entries_of s cs));
    }
  where
    number : (p : Place) (t : Bool) → nat_eq s p.var ≡ t → number_in (entries_of s (array_at m s).0) p ≡ cond t (arrays_of m p) 0
    number p true e = ap (λ v. number_in (entries_of v (array_at m v).0) p) (eqb-true s p.var e) ∙ number-here p.var (array_at m p.var).0 p.index (subst (λ v. IsDistinct bytes_eq (keys_of (array_at m v).0)) (eqb-true s p.var e) distinct)
    number p false e = number-other s (array_at m s).0 p e
