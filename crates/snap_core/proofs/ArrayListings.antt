-- The listing of one array behind those of the arrays before.
use Rattle.std.proofs.Common.{◌≡◌, ◌≢◌, ℕ, ◌+◌, ◌<◌, ◌≤◌, Bool, true, false, cond, List, [], ◌∷◌, ◌++◌, map, take, drop, length, refl, sym, ap, subst, ◌∙◌, ⊎_elim, append-nil, take-append-drop, arith, get_or}
use Rattle.std.specs.Prelude.{◌==◌, nat_eq, nat_lt, unwrap_or, if◌then◌else◌}
use Rattle.std.specs.List.{All, IsDistinct}
use Rattle.std.specs.List.Sorted.{IsPermutation, IsSorted, IsStrictlySortedBy}
use Rattle.std.specs.Map.{keys_of}
use Rattle.std.specs.Ordering.{nat_cmp, ordering_then}
use Rattle.std.specs.Str.{bytes_eq}
use Rattle.std.specs.Cmp.{nat_cmp_is}
use Rattle.std.specs.Cmp.Lexicographic.{slice_cmp}
use Rattle.std.specs.declared.cmp.Ordering.TheVariants.{Less}
use Rattle.std.proofs.Math.Seq.{take-append_seam, drop-append_seam}
use Rattle.std.proofs.lemmas.Bool.{eqb-true, eqb-false, ne_eqb, lt-ltb, le-ltb, cases_lt}
use Rattle.std.proofs.lemmas.List.{get_or_past, length-map, map-append, take-map, drop-map}
use Rattle.std.proofs.lemmas.List.Elements.{All-append, All-map, All-nil, All-tail, All-weaker, recursion_from_All}
use Rattle.snap_core.specs.declared.place.Place.{Place}
use Rattle.snap_core.specs.declared.place.Entry.{Entry}
use Rattle.snap_core.specs.declared.place.Listed.{Listed}
use Rattle.snap_core.specs.Arrays.{Arrays, same_place}
use Rattle.snap_core.specs.Cells.{Kept, cell, array_at, arrays_of}
use Rattle.snap_core.specs.Listing.{IsListing, IsArrayListing, ListsArray, array_of, entries_of, entry_of, listed_cmp, number_in, place_cmp}
use Rattle.snap_core.proofs.Entries.{both, places}
use Rattle.snap_core.proofs.InOrder.{IsArrayListing-sorted}
use Rattle.snap_core.proofs.Places.{apart-var}

rising_append : (ps qs : List Place) → IsStrictlySortedBy place_cmp ps → IsStrictlySortedBy place_cmp qs → All (λ p. All (λ q. place_cmp p q ≡ Less) qs) ps → IsStrictlySortedBy place_cmp (ps ++ qs)
unfolding IsStrictlySortedBy
rising_append [] qs a b less = b
rising_append (p ∷ ps) qs a b less =
    (both (λ q. place_cmp p q ≡ Less) ps qs a.0 (recursion_from_All (λ q. place_cmp p q ≡ Less) qs (less 0 p (omega arith))), rising_append ps qs a.1 b (All-tail (λ p. All (λ q. place_cmp p q ≡ Less) qs) p ps less))

var_less : (p q : Place) → p.var < q.var → place_cmp p q ≡ Less
var_less p q low = ap (λ o. ordering_then o (slice_cmp nat_cmp p.index q.index)) (sym (nat_cmp_is p.var q.var Less low))

places_append : (es fs : List Entry) → places (es ++ fs) ≡ places es ++ places fs
places_append [] fs = refl
places_append (e ∷ es) fs = ap (λ l. e.place ∷ l) (places_append es fs)

each_less : (n : ℕ) (es fs : List Entry) → All (λ (e : Entry). e.place.var < n) es → All (λ (f : Entry). f.place.var ≡ n) fs → All (λ p. All (λ q. place_cmp p q ≡ Less) (places fs)) (places es)
each_less n es fs low same =
    All-map (λ p. All (λ q. place_cmp p q ≡ Less) (places fs)) (λ (e : Entry). e.place) es (λ i d l.
    let e = get_or es i d in
    All-map (λ q. place_cmp e.place q ≡ Less) (λ (f : Entry). f.place) fs (λ j c m. var_less e.place (get_or fs j c).place (subst (λ x. e.place.var < x) (sym (same j c m)) (low i d l))))

number_behind : (es fs : List Entry) (p : Place) → All (λ (e : Entry). e.place.var < p.var) es → number_in (es ++ fs) p ≡ number_in fs p
number_behind [] fs p low = refl
number_behind (e ∷ es) fs p low =
    ap (λ t. if t then e.value else number_in (es ++ fs) p) (apart-var e.place.var e.place.index p (ne_eqb e.place.var p.var (λ same. let lower : e.place.var < p.var = low 0 e (omega arith) in omega (arith, lower, same))))
    ∙ number_behind es fs p (All-tail (λ (e : Entry). e.place.var < p.var) e es low)

number_before : (es fs : List Entry) (p : Place) → number_in fs p ≡ 0 → number_in (es ++ fs) p ≡ number_in es p
number_before [] fs p none = none
number_before (e ∷ es) fs p none = ap (λ n. if same_place e.place p then e.value else n) (number_before es fs p none)

IsListing-none : (m : Arrays) → ((p : Place) → m p ≡ 0) → IsListing m []
unfolding IsStrictlySortedBy
IsListing-none m none = record { rising = tt; nonzero = All-nil (λ (e : Entry). e.value ≢ 0); numbers = λ p. sym (none p) }

-- a listing of the arrays below n
pub record AreBelow (n : ℕ) (m : Arrays) (es : List Entry) : Type 0 where
  pub listing : IsListing m es
  pub arrays : All (λ e. e.place.var < n) es

pub listing_none : (m : Arrays) → ((p : Place) → m p ≡ 0) → AreBelow 0 m []
listing_none m none = record { listing = IsListing-none m none; arrays = All-nil (λ (e : Entry). e.place.var < 0) }

pub listing_more : (n : ℕ) (m other m' : Arrays) (es fs : List Entry) → AreBelow n m es → IsArrayListing n other fs → ((p : Place) → m' p ≡ (if n == p.var then other p else m p)) → AreBelow (n + 1) m' (es ++ fs)
listing_more n m other m' es fs below array after = record {
  listing = record {
    rising = subst (IsStrictlySortedBy place_cmp) (sym (places_append es fs))
        (rising_append (places es) (places fs) below.listing.rising array.listing.rising (each_less n es fs below.arrays array.arrays));
    nonzero = All-append (λ (e : Entry). e.value ≢ 0) es fs below.listing.nonzero array.listing.nonzero;
    numbers = λ p. by p (n == p.var) refl ∙ sym (after p);
  };
  arrays = All-append (λ (e : Entry). e.place.var < n + 1) es fs
      (All-weaker (λ (e : Entry). e.place.var < n) (λ (e : Entry). e.place.var < n + 1) (λ e low. omega (arith, low)) es below.arrays)
      (All-weaker (λ (e : Entry). e.place.var ≡ n) (λ (e : Entry). e.place.var < n + 1) (λ e same. omega (arith, same)) fs array.arrays);
}
  where
    by : (p : Place) (t : Bool) → (n == p.var) ≡ t → number_in (es ++ fs) p ≡ (if t then other p else m p)
    by p true e =
        let same : n ≡ p.var = eqb-true n p.var e in
        number_behind es fs p (subst (λ x. All (λ (e : Entry). e.place.var < x) es) same below.arrays)
        ∙ array.listing.numbers p
        ∙ ap (λ t. if t then other p else 0) e
    by p false e =
        number_before es fs p (array.listing.numbers p ∙ ap (λ t. if t then other p else 0) e)
        ∙ below.listing.numbers p

-- ---- one array of a store, behind what is listed
pub lists-none : (s : ℕ) (m : Kept) (es : List Entry) → length m ≤ s → ListsArray s (arrays_of m) es es
lists-none s m es high = ([], sym (append-nil es), record { listing = IsListing-none (array_of s (arrays_of m)) (λ p. none p (nat_eq s p.var) refl); arrays = All-nil (λ (e : Entry). e.place.var ≡ s) })
  where
    none : (p : Place) (t : Bool) → nat_eq s p.var ≡ t → cond t (arrays_of m p) 0 ≡ 0
    none p true e = ap (λ a. unwrap_or (cell a.0 p.index) 0) (ap (array_at m) (sym (eqb-true s p.var e)) ∙ get_or_past m s ([], 0) high)
    none p false e = refl

-- what is put behind the first n is put in order
pub lists-sorted : (s : ℕ) (m : Kept) (n : ℕ) (old ls ms : List Listed) → n ≡ length old → map entry_of ls ≡ map entry_of old ++ entries_of s (array_at m s).0 → IsDistinct bytes_eq (keys_of (array_at m s).0)
    → take n ms ≡ take n ls → IsPermutation (drop n ls) (drop n ms) → IsSorted listed_cmp (drop n ms) → ListsArray s (arrays_of m) (map entry_of old) (map entry_of ms)
lists-sorted s m n old ls ms count all distinct before moved sorted =
    let xs = map entry_of old in let ys = entries_of s (array_at m s).0 in
    let long : n ≡ length xs = count ∙ sym (length-map old entry_of) in
    let front : map entry_of (take n ms) ≡ xs =
    ap (map entry_of) before ∙ sym (take-map entry_of n ls) ∙ ap (take n) all ∙ ap (λ k. take k (xs ++ ys)) long ∙ take-append_seam xs ys in
    let rest : map entry_of (drop n ls) ≡ ys =
    sym (drop-map entry_of n ls) ∙ ap (drop n) all ∙ ap (λ k. drop k (xs ++ ys)) long ∙ drop-append_seam xs ys in (
      map entry_of (drop n ms),
      ap (map entry_of) (sym (take-append-drop n ms)) ∙ map-append entry_of (take n ms) (drop n ms) ∙ ap (λ l. l ++ map entry_of (drop n ms)) front,
      IsArrayListing-sorted s m (drop n ls) (drop n ms) distinct rest moved sorted,
    )

-- ---- the arrays below a number
abbrev pub below : ℕ → Arrays → Arrays
below n m p = if nat_lt p.var n then m p else 0

pub below-low : (n : ℕ) (m : Arrays) (p : Place) → p.var < n → below n m p ≡ m p
below-low n m p low = ap (λ b. if b then m p else 0) (lt-ltb p.var n low)

pub below-high : (n : ℕ) (m : Arrays) (p : Place) → n ≤ p.var → below n m p ≡ 0
below-high n m p high = ap (λ b. if b then m p else 0) (le-ltb p.var n high)

pub below-none : (m : Arrays) (p : Place) → below 0 m p ≡ 0
below-none m p = below-high 0 m p (omega arith)

pub below-more : (n : ℕ) (m : Arrays) (p : Place) → below (n + 1) m p ≡ (if n == p.var then m p else below n m p)
below-more n m p = by (n == p.var) refl
  where
    by : (t : Bool) → (n == p.var) ≡ t → below (n + 1) m p ≡ (if t then m p else below n m p)
    by true e = let is : n ≡ p.var = eqb-true n p.var e in below-low (n + 1) m p (omega (arith, is))
    by false e = ⊎_elim
        (λ low. below-low (n + 1) m p (let h : p.var < n = low in omega (arith, h)) ∙ sym (below-low n m p low))
        (λ high. below-high (n + 1) m p (let h : n ≤ p.var = high in let other : n ≢ p.var = eqb-false n p.var e in omega (arith, h, other)) ∙ sym (below-high n m p high))
        (cases_lt p.var n)

-- below the number of its arrays is all that a store holds
pub below-all : (m : Kept) → below (length m) (arrays_of m) ≡ arrays_of m
below-all m = λ i p. ⊎_elim
    (λ low. below-low (length m) (arrays_of m) p low)
    (λ high. below-high (length m) (arrays_of m) p high ∙ sym (ap (λ a. unwrap_or (cell a.0 p.index) 0) (get_or_past m p.var ([], 0) high)))
    (cases_lt p.var (length m)) i
