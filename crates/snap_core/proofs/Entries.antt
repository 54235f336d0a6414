-- The entries of an array.
use Rattle.std.proofs.Common.{◌≡◌, ◌≢◌, ℕ, Bool, true, false, cond, List, [], ◌∷◌, ◌++◌, Some, map, refl, sym, ap, subst, ◌∙◌, ⊎_elim}
use Rattle.std.specs.Prelude.{unwrap_or, nat_eq}
use Rattle.std.specs.List.{All, AllByRecursion, IsDistinct}
use Rattle.std.specs.Map.{keys_of}
use Rattle.std.specs.Str.{bytes_eq}
use Rattle.std.specs.Cmp.Lexicographic.{nat_list_eq_equiv}
use Rattle.std.proofs.lemmas.Bool.{cases_Bool, eqb-true, eqb-false, eq-eqb}
use Rattle.std.proofs.lemmas.List.Elements.{All-nil, All-cons}
use Rattle.snap_core.specs.declared.place.Place.{Place}
use Rattle.snap_core.specs.declared.place.Entry.{Entry}
use Rattle.snap_core.specs.Arrays.{same_place}
use Rattle.snap_core.specs.Cells.{Cells, cell}
use Rattle.snap_core.specs.Listing.{number_in, entries_of}
use Rattle.snap_core.proofs.Places.{same_key, same_place-itself, apart-var, apart-index}

abbrev pub places : List Entry → List Place
places es = map (λ e. e.place) es

-- the entry of one cell
abbrev entry : ℕ → List ℕ → ℕ → Entry
entry s k v = record { place = record { var = s; index = k }; value = v }

-- ---- one list behind another
pub both : {X : Type 0} (P : X → Type 0) (xs ys : List X) → AllByRecursion P xs → AllByRecursion P ys → AllByRecursion P (xs ++ ys)
both P [] ys h k = k
both P (x ∷ xs) ys h k = (h.0, both P xs ys h.1 k)

pub IsDistinct-append : {X : Type 0} (eq : X → X → Bool) (ps qs : List X) → IsDistinct eq ps → IsDistinct eq qs → AllByRecursion (λ p. AllByRecursion (λ q. eq p q ≡ false) qs) ps → IsDistinct eq (ps ++ qs)
unfolding IsDistinct
IsDistinct-append eq [] qs a b apart = b
IsDistinct-append eq (p ∷ ps) qs a b apart = (both (λ q. eq p q ≡ false) ps qs a.0 apart.0, IsDistinct-append eq ps qs a.1 b apart.1)

-- no entry holds 0
abbrev pub NoZero : List Entry → Type 0
NoZero es = All (λ e. e.value ≢ 0) es

-- ---- one array
pub number-other : (s : ℕ) (cs : Cells) (p : Place) → nat_eq s p.var ≡ false → number_in (entries_of s cs) p ≡ 0
number-other s [] p h = refl
number-other s (c ∷ cs) p h =
    elim (nat_eq c.1 0) as (λ t. number_in (cond t (entries_of s cs) (entry s c.0 c.1 ∷ entries_of s cs)) p ≡ 0) [
      | true ↦ number-other s cs p h
      | false ↦ ap (λ t. cond t c.1 (number_in (entries_of s cs) p)) (apart-var s c.0 p h) ∙ number-other s cs p h
    ]

number-absent : (s : ℕ) (k : List ℕ) (cs : Cells) → AllByRecursion (λ y. bytes_eq k y ≡ false) (keys_of cs) → number_in (entries_of s cs) (record { var = s; index = k }) ≡ 0
number-absent s k [] h = refl
number-absent s k (c ∷ cs) h =
    let apart = apart-index s c.0 (record { var = s; index = k }) (nat_list_eq_equiv.symm c.0 k ∙ h.0) in
    elim (nat_eq c.1 0) as (λ t. number_in (cond t (entries_of s cs) (entry s c.0 c.1 ∷ entries_of s cs)) (record { var = s; index = k }) ≡ 0) [
      | true ↦ number-absent s k cs h.1
      | false ↦ ap (λ t. cond t c.1 (number_in (entries_of s cs) (record { var = s; index = k }))) apart ∙ number-absent s k cs h.1
    ]

pub number-here : (s : ℕ) (cs : Cells) (ix : List ℕ) → IsDistinct bytes_eq (keys_of cs) → number_in (entries_of s cs) (record { var = s; index = ix }) ≡ unwrap_or (cell cs ix) 0
unfolding IsDistinct
number-here s [] ix distinct = refl
number-here s (c ∷ cs) ix distinct =
    let p : Place = record { var = s; index = ix } in
    let next = number-here s cs ix distinct.1 in
    ⊎_elim
    (λ same.
    let e : c.0 ≡ ix = same_key c.0 ix same in
    let found : unwrap_or (cell (c ∷ cs) ix) 0 ≡ c.1 = ap (λ t. unwrap_or (cond t (Some c.1) (cell cs ix)) 0) (nat_list_eq_equiv.symm ix c.0 ∙ same) in
    let none : number_in (entries_of s cs) p ≡ 0 = subst (λ k. number_in (entries_of s cs) (record { var = s; index = k }) ≡ 0) e (number-absent s c.0 cs distinct.0) in
    zero_or (nat_eq c.1 0) c.1 (entries_of s cs) c.0 p refl none (subst (λ k. same_place (record { var = s; index = c.0 }) (record { var = s; index = k }) ≡ true) e (same_place-itself (record { var = s; index = c.0 }))) ∙ sym found)
    (λ other.
    let passed : unwrap_or (cell (c ∷ cs) ix) 0 ≡ unwrap_or (cell cs ix) 0 = ap (λ t. unwrap_or (cond t (Some c.1) (cell cs ix)) 0) (nat_list_eq_equiv.symm ix c.0 ∙ other) in
    skipped (nat_eq c.1 0) c.1 (entries_of s cs) c.0 p (apart-index s c.0 p other) ∙ next ∙ sym passed)
    (cases_Bool (bytes_eq c.0 ix))
  where
    zero_or : (t : Bool) (v : ℕ) (es : List Entry) (k : List ℕ) (p : Place) → nat_eq v 0 ≡ t → number_in es p ≡ 0 → same_place (record { var = s; index = k }) p ≡ true → number_in (cond t es (entry s k v ∷ es)) p ≡ v
    zero_or true v es k p z none here = none ∙ sym (eqb-true v 0 z)
    zero_or false v es k p z none here = ap (λ t. cond t v (number_in es p)) here

    skipped : (t : Bool) (v : ℕ) (es : List Entry) (k : List ℕ) (p : Place) → same_place (record { var = s; index = k }) p ≡ false → number_in (cond t es (entry s k v ∷ es)) p ≡ number_in es p
    skipped true v es k p apart = refl
    skipped false v es k p apart = ap (λ t. cond t v (number_in es p)) apart

pub NoZero-entries_of : (s : ℕ) (cs : Cells) → NoZero (entries_of s cs)
NoZero-entries_of s [] = All-nil (λ (e : Entry). e.value ≢ 0)
NoZero-entries_of s (c ∷ cs) = by_zero (nat_eq c.1 0) refl (NoZero-entries_of s cs)
  where
    by_zero : (t : Bool) → nat_eq c.1 0 ≡ t → NoZero (entries_of s cs) → NoZero (cond t (entries_of s cs) (entry s c.0 c.1 ∷ entries_of s cs))
    by_zero true z h = h
    by_zero false z h = All-cons (λ (e : Entry). e.value ≢ 0) (entry s c.0 c.1) (entries_of s cs) (eqb-false c.1 0 z) h

pub arrays-entries_of : (s : ℕ) (cs : Cells) → All (λ e. e.place.var ≡ s) (entries_of s cs)
arrays-entries_of s [] = All-nil (λ (e : Entry). e.place.var ≡ s)
arrays-entries_of s (c ∷ cs) =
    elim (nat_eq c.1 0) as (λ t. All (λ e. e.place.var ≡ s) (cond t (entries_of s cs) (entry s c.0 c.1 ∷ entries_of s cs))) [
      | true ↦ arrays-entries_of s cs
      | false ↦ All-cons (λ (e : Entry). e.place.var ≡ s) (entry s c.0 c.1) (entries_of s cs) refl (arrays-entries_of s cs)
    ]

-- what holds of the place of each cell holds of the place of each entry
places-entries_of : (P : Place → Type 0) (s : ℕ) (cs : Cells) → AllByRecursion (λ k. P (record { var = s; index = k })) (keys_of cs) → AllByRecursion P (places (entries_of s cs))
places-entries_of P s [] h = tt
places-entries_of P s (c ∷ cs) h =
    elim (nat_eq c.1 0) as (λ t. AllByRecursion P (places (cond t (entries_of s cs) (entry s c.0 c.1 ∷ entries_of s cs)))) [
      | true ↦ places-entries_of P s cs h.1
      | false ↦ (h.0, places-entries_of P s cs h.1)
    ]

pub IsDistinct-entries_of : (s : ℕ) (cs : Cells) → IsDistinct bytes_eq (keys_of cs) → IsDistinct same_place (places (entries_of s cs))
unfolding IsDistinct
IsDistinct-entries_of s [] h = h
IsDistinct-entries_of s (c ∷ cs) h =
    elim (nat_eq c.1 0) as (λ t. IsDistinct same_place (places (cond t (entries_of s cs) (entry s c.0 c.1 ∷ entries_of s cs)))) [
      | true ↦ IsDistinct-entries_of s cs h.1
      | false ↦ (places-entries_of (λ q. same_place (record { var = s; index = c.0 }) q ≡ false) s cs (apart (keys_of cs) h.0), IsDistinct-entries_of s cs h.1)
    ]
  where
    apart : (ks : List (List ℕ)) → AllByRecursion (λ y. bytes_eq c.0 y ≡ false) ks → AllByRecursion (λ k. same_place (record { var = s; index = c.0 }) (record { var = s; index = k }) ≡ false) ks
    apart [] h = tt
    apart (k ∷ ks) h = (apart-index s c.0 (record { var = s; index = k }) h.0, apart ks h.1)

-- ---- one cell
pub entries_of-zero : (s : ℕ) (k : List ℕ) (v : ℕ) (cs : Cells) → v ≡ 0 → entries_of s ((k, v) ∷ cs) ≡ entries_of s cs
entries_of-zero s k v cs e = ap (λ t. cond t (entries_of s cs) (entry s k v ∷ entries_of s cs)) (eq-eqb v 0 e)

-- ---- cells behind others
pub entries_of-append : (s : ℕ) (cs ds : Cells) → entries_of s (cs ++ ds) ≡ entries_of s cs ++ entries_of s ds
entries_of-append s [] ds = refl
entries_of-append s (c ∷ cs) ds =
    elim (nat_eq c.1 0) as (λ t. cond t (entries_of s (cs ++ ds)) (entry s c.0 c.1 ∷ entries_of s (cs ++ ds)) ≡ cond t (entries_of s cs) (entry s c.0 c.1 ∷ entries_of s cs) ++ entries_of s ds) [
      | true ↦ entries_of-append s cs ds
      | false ↦ ap (λ l. entry s c.0 c.1 ∷ l) (entries_of-append s cs ds)
    ]
