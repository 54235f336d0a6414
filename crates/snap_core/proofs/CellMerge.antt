-- Cells in another order, and cells put one after another.
use Rattle.std.proofs.Common.{◌≡◌, ℕ, ◌≤◌, Bool, true, false, cond, ◌||◌, List, [], ◌∷◌, Option, None, Some, length, refl, sym, ap, subst, ◌∙◌, ⊎_elim, arith}
use Rattle.std.specs.Prelude.{unwrap_or, nat_eq}
use Rattle.std.specs.Global.{Vec}
use Rattle.std.specs.List.{AllByRecursion, IsDistinct, list_any}
use Rattle.std.specs.List.Sorted.{IsPermutation, IsStrictlySortedBy}
use Rattle.std.specs.Map.{lookup, keys_of}
use Rattle.std.specs.Ordering.{nat_cmp}
use Rattle.std.specs.Str.{bytes_eq}
use Rattle.std.specs.BTreeMap.{is_at}
use Rattle.std.specs.Cmp.{IsEquivalence, unsigned_tied}
use Rattle.std.specs.Cmp.Lexicographic.{nat_list_eq_equiv}
use Rattle.std.proofs.lemmas.Bool.{cases_Bool, cond-true, cond-false, eqb-true, eqb-false, ne_eqb}
use Rattle.std.proofs.lemmas.List.Sorted.{IsPermutation-map, IsPermutation-sym, Contains-permutation}
use Rattle.std.proofs.lemmas.Map.Keys.{IsDistinct-from_sorted, IsDistinct-IsPermutation}
use Rattle.std.proofs.lemmas.Map.Text.{is_eq-slice_cmp}
use Rattle.std.proofs.lemmas.Map.Views.{Contains-from_lookup, lookup-from_Contains}
use Rattle.snap_core.specs.declared.place.Place.{Place}
use Rattle.snap_core.specs.Arrays.{Arrays}
use Rattle.snap_core.specs.Cells.{Cells, Changed, cell, cells_of, either, changed_at, held, overlaid}
use Rattle.snap_core.proofs.CellLemmas.{key_cmp, key_eq}
use Rattle.snap_core.proofs.Places.{same_key}
use Rattle.snap_core.proofs.StoreLemmas.{at-absent}

-- ---- different keys
apart_keys : (k : Vec ℕ) (es : List (Vec ℕ × ℕ)) → AllByRecursion (λ y. key_eq k y ≡ false) (keys_of es) → AllByRecursion (λ y. bytes_eq k.items y ≡ false) (keys_of (cells_of es))
apart_keys k [] h = h
apart_keys k (e ∷ es) h = (h.0, apart_keys k es h.1)

pub IsDistinct-cells_of : (es : List (Vec ℕ × ℕ)) → IsDistinct key_eq (keys_of es) → IsDistinct bytes_eq (keys_of (cells_of es))
unfolding IsDistinct
IsDistinct-cells_of [] h = h
IsDistinct-cells_of (e ∷ es) h = (apart_keys e.0 es h.0, IsDistinct-cells_of es h.1)

pub IsDistinct-ordered : (es : List (Vec ℕ × ℕ)) → IsStrictlySortedBy key_cmp (keys_of es) → IsDistinct bytes_eq (keys_of (cells_of es))
IsDistinct-ordered es h = IsDistinct-cells_of es (subst (λ e. IsDistinct e (keys_of es)) (λ i x y. is_eq-slice_cmp x.items y.items i) (IsDistinct-from_sorted key_cmp (keys_of es) h))

pub IsDistinct-arrays : {X : Type 0} (es : List (ℕ × X)) → IsStrictlySortedBy nat_cmp (keys_of es) → IsDistinct nat_eq (keys_of es)
IsDistinct-arrays es h = subst (λ e. IsDistinct e (keys_of es)) (λ i x y. unsigned_tied x y i) (IsDistinct-from_sorted nat_cmp (keys_of es) h)

-- ---- another order
pub lookup-reordered : {K X : Type 0} {eq : K → K → Bool} → IsEquivalence eq → ((x y : K) → eq x y ≡ true → x ≡ y) → (es fs : List (K × X)) → IsPermutation es fs → IsDistinct eq (keys_of fs) → (q : K) → lookup (eq q) fs ≡ lookup (eq q) es
lookup-reordered {K} {X} {eq} equiv exact es fs moved distinct q =
    let back = IsPermutation-sym es fs moved in
    let before : IsDistinct eq (keys_of es) = IsDistinct-IsPermutation eq equiv.symm (keys_of fs) (keys_of es) (IsPermutation-map (λ (e : K × X). e.0) fs es back) distinct in
    by_found (lookup (eq q) es) (lookup (eq q) fs)
    (λ v e. lookup-from_Contains equiv q v fs distinct (Contains-permutation es fs (q, v) moved (Contains-from_lookup exact q v es e)))
    (λ v e. lookup-from_Contains equiv q v es before (Contains-permutation fs es (q, v) back (Contains-from_lookup exact q v fs e)))
  where
    by_found : (o p : Option X) → ((v : X) → o ≡ Some v → p ≡ Some v) → ((v : X) → p ≡ Some v → o ≡ Some v) → p ≡ o
    by_found None None there back = refl
    by_found None (Some v) there back = sym (back v refl)
    by_found (Some v) p there back = there v refl

pub cell-reordered : (es fs : Cells) → IsPermutation es fs → IsDistinct bytes_eq (keys_of fs) → (q : List ℕ) → cell fs q ≡ cell es q
cell-reordered es fs moved distinct q = lookup-reordered nat_list_eq_equiv same_key es fs moved distinct q

-- ---- one cell after another
cell-absent : (k : List ℕ) (cs : Cells) → AllByRecursion (λ y. bytes_eq k y ≡ false) (keys_of cs) → cell cs k ≡ None
cell-absent k [] h = refl
cell-absent k (c ∷ cs) h = ap (λ t. cond t (Some c.1) (cell cs k)) h.0 ∙ cell-absent k cs h.1

-- the cells that are left, over a cell that was put and over what was there before
pub cell-put : (k : List ℕ) (v : ℕ) (rest : Cells) → IsDistinct bytes_eq (k ∷ keys_of rest) → (q : List ℕ) (old new : Option ℕ) → new ≡ cond (bytes_eq k q) (Some v) old → either (cell rest q) new ≡ either (cell ((k, v) ∷ rest) q) old
unfolding IsDistinct
cell-put k v rest distinct q old new is =
    ⊎_elim
    (λ same.
    let e : k ≡ q = same_key k q same in
    let none : cell rest q ≡ None = subst (λ l. cell rest l ≡ None) e (cell-absent k rest distinct.0) in
    ap (λ o. either o new) none ∙ is ∙ cond-true (bytes_eq k q) _ _ same
    ∙ sym (ap (λ o. either o old) (cond-true (bytes_eq q k) (Some v) (cell rest q) (nat_list_eq_equiv.symm q k ∙ same))))
    (λ other.
    ap (either (cell rest q)) (is ∙ cond-false (bytes_eq k q) _ _ other)
    ∙ sym (ap (λ o. either o old) (cond-false (bytes_eq q k) (Some v) (cell rest q) (nat_list_eq_equiv.symm q k ∙ other))))
    (cases_Bool (bytes_eq k q))

-- ---- one array after another
pub unwrap-cond : {A : Type 0} (t : Bool) (x : A) (y : Option A) (d : A) → unwrap_or (cond t (Some x) y) d ≡ cond t x (unwrap_or y d)
unwrap-cond true x y d = refl
unwrap-cond false x y d = refl

changed-cons : (v : ℕ) (b : Cells) (r : Changed) (s : ℕ) → changed_at ((v, b) ∷ r) s ≡ cond (nat_eq s v) b (changed_at r s)
changed-cons v b r s = unwrap-cond (is_at (nat_cmp s) v) b (lookup (is_at (nat_cmp s)) r) [] ∙ ap (λ t. cond t b (changed_at r s)) (unsigned_tied s v)

none_any : (v : ℕ) (ks : List ℕ) → AllByRecursion (λ y. nat_eq v y ≡ false) ks → list_any (nat_eq v) ks ≡ false
none_any v [] h = refl
none_any v (k ∷ ks) h = ap (λ t. t || list_any (nat_eq v) ks) h.0 ∙ none_any v ks h.1

changed-absent : (v : ℕ) (r : Changed) → AllByRecursion (λ y. nat_eq v y ≡ false) (keys_of r) → changed_at r v ≡ []
changed-absent v r h = at-absent [] r v (none_any v (keys_of r) h)

flip : (a b : ℕ) (t : Bool) → nat_eq a b ≡ t → nat_eq b a ≡ t
flip a b true e = ap (λ x. nat_eq x a) (sym (eqb-true a b e)) ∙ ap (nat_eq a) (eqb-true a b e) ∙ e
flip a b false e = ne_eqb b a (λ h. eqb-false a b e (sym h))

-- the changes that are left, over an array that was changed and over the arrays before
pub overlaid-step : (v : ℕ) (b : Cells) (r : Changed) (old new : Arrays) → IsDistinct nat_eq (v ∷ keys_of r) → ((p : Place) → new p ≡ cond (nat_eq v p.var) (unwrap_or (cell b p.index) (old p)) (old p)) → (p : Place) → overlaid new r p ≡ overlaid old ((v, b) ∷ r) p
unfolding IsDistinct
overlaid-step v b r old new distinct is p =
    ⊎_elim
    (λ same.
    let none : changed_at r p.var ≡ [] = subst (λ s. changed_at r s ≡ []) (eqb-true v p.var same) (changed-absent v r distinct.0) in
    ap (λ c. unwrap_or (cell c p.index) (new p)) none ∙ is p ∙ cond-true (nat_eq v p.var) _ _ same
    ∙ sym (ap (λ c. unwrap_or (cell c p.index) (old p)) (changed-cons v b r p.var ∙ cond-true (nat_eq p.var v) b (changed_at r p.var) (flip v p.var true same))))
    (λ other.
    ap (unwrap_or (held r p)) (is p ∙ cond-false (nat_eq v p.var) _ _ other)
    ∙ sym (ap (λ c. unwrap_or (cell c p.index) (old p)) (changed-cons v b r p.var ∙ cond-false (nat_eq p.var v) b (changed_at r p.var) (flip v p.var false other))))
    (cases_Bool (nat_eq v p.var))

-- there is room for what is left
pub room-step : (v : ℕ) (b : Cells) (r : Changed) (old new : ℕ → ℕ) → IsDistinct nat_eq (v ∷ keys_of r) → ((s : ℕ) → length (changed_at ((v, b) ∷ r) s) ≤ old s) → ((s : ℕ) → nat_eq v s ≡ false → new s ≡ old s) → (s : ℕ) → length (changed_at r s) ≤ new s
unfolding IsDistinct
room-step v b r old new distinct fits kept s =
    ⊎_elim
    (λ same.
    let none : length (changed_at r s) ≡ 0 = ap length (subst (λ x. changed_at r x ≡ []) (eqb-true v s same) (changed-absent v r distinct.0)) in
    omega (arith, none))
    (λ other.
    let is : length (changed_at ((v, b) ∷ r) s) ≡ length (changed_at r s) = ap length (changed-cons v b r s ∙ cond-false (nat_eq s v) b (changed_at r s) (flip v s false other)) in
    let fit = fits s in let keep = kept s other in
    omega (arith, is, fit, keep))
    (cases_Bool (nat_eq v s))
