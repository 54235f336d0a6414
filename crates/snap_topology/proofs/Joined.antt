-- The switches to which a list of links joins one.
use Rattle.std.proofs.Common.{◌≡◌, ◌∙◌, ◌⊎◌, ◌↔◌, inl, inr, ℕ, zero, suc, ◌+◌, ◌<◌, ◌==◌, Bool, true, false, cond, List, [], ◌∷◌, ◌++◌, length, refl, sym, ap, subst, arith, slice_index_or}
use Rattle.std.specs.List.{Contains, flat_map}
use Rattle.std.specs.List.Sorted.{IsNonDecreasing, IsPermutation}
use Rattle.std.proofs.lemmas.Bool.{eqb-true, eq-eqb, cases_eq}
use Rattle.std.proofs.lemmas.List.{get_or_push, get_or_append_left}
use Rattle.snap_topology.specs.Graphs.{Adjacent, neighbours_of}
use Rattle.std.proofs.lemmas.List.Elements.{Contains-append_left, Contains-append_right, Contains-append_cases}
use Rattle.std.proofs.lemmas.List.Sorted.{Contains-permutation, IsPermutation-sym}
use Rattle.snap_topology.specs.Walks.{Linked}
use Rattle.snap_topology.proofs.Pairs.{pair}
use Rattle.snap_core.proofs.Members.{Contains-here}

at-only : {X : Type 0} (x y : X) (k : ℕ) → k < 1 → slice_index_or (x ∷ []) k y ≡ y → x ≡ y
at-only x y zero lt is = is
at-only x y (suc k) lt is = absurd (omega arith)

pub Contains-only : {X : Type 0} (x y : X) → Contains (x ∷ []) y → x ≡ y
Contains-only x y h = at-only x y h.0 h.1 h.2

pub Contains-one : {X : Type 0} (x : X) → Contains (x ∷ []) x
Contains-one x = (0, omega arith, refl)

pub Contains-nil : {X : Type 0} (y : X) → Contains [] y → ⊥
Contains-nil y h = omega (arith, h.1)

pub Contains-cons_cases : {X : Type 0} (x : X) (xs : List X) (y : X) → Contains (x ∷ xs) y → (x ≡ y) ⊎ Contains xs y
Contains-cons_cases x xs y h = elim (Contains-append_cases (x ∷ []) xs y h) [ inl a ↦ inl (Contains-only x y a) | inr b ↦ inr b ]

pub Contains-tail : {X : Type 0} (x : X) (xs : List X) (y : X) → Contains xs y → Contains (x ∷ xs) y
Contains-tail x xs y h = Contains-append_right (x ∷ []) xs y h

-- ---- what a `flat_map` contains

pub Contains-flat_map : {X Y : Type 0} (f : X → List Y) (xs : List X) (x : X) (y : Y) → Contains xs x → Contains (f x) y → Contains (flat_map f xs) y
Contains-flat_map f [] x y in' here = absurd (Contains-nil x in')
Contains-flat_map {Y = Y} f (z ∷ zs) x y in' here = elim (Contains-cons_cases z zs x in') [
  | inl same ↦ Contains-append_left (f z) (flat_map f zs) y (subst (λ w. Contains (f w) y) (sym same) here)
  | inr later ↦ Contains-append_right (f z) (flat_map f zs) y (Contains-flat_map f zs x y later here)
]

pub flat_map-Contains : {X Y : Type 0} (f : X → List Y) (xs : List X) (y : Y) → Contains (flat_map f xs) y → (x : X) × (Contains xs x × Contains (f x) y)
flat_map-Contains f [] y h = absurd (Contains-nil y h)
flat_map-Contains f (z ∷ zs) y h = elim (Contains-append_cases (f z) (flat_map f zs) y h) [
  | inl here ↦ (z, (Contains-here z zs, here))
  | inr later ↦ let w = flat_map-Contains f zs y later in (w.0, (Contains-tail z zs w.0 w.1.0, w.1.1))
]

-- ---- links

abbrev pub one_if : Bool → ℕ → List ℕ
one_if b x = cond b (x ∷ []) []

-- the switches to which a link joins v
abbrev pub joined : ℕ → ℕ × ℕ → List ℕ
joined v link = one_if (link.0 == v) link.1 ++ one_if (link.1 == v) link.0

one_if-Contains : (b : Bool) (x m : ℕ) → Contains (one_if b x) m → (b ≡ true) × (x ≡ m)
one_if-Contains true x m h = (refl, Contains-only x m h)
one_if-Contains false x m h = absurd (Contains-nil m h)

Contains-one_if : (b : Bool) (x m : ℕ) → b ≡ true → x ≡ m → Contains (one_if b x) m
Contains-one_if true x m is same = subst (λ (y : ℕ). Contains (x ∷ []) y) same (Contains-one x)
Contains-one_if false x m is same = cc

joined-Contains : (v m : ℕ) (link : ℕ × ℕ) → Contains (joined v link) m → (link ≡ pair v m) ⊎ (link ≡ pair m v)
joined-Contains v m link h = elim (Contains-append_cases (one_if (link.0 == v) link.1) (one_if (link.1 == v) link.0) m h) [
  | inl a ↦ let p = one_if-Contains (link.0 == v) link.1 m a in inl (ap (λ x. pair x link.1) (eqb-true _ _ p.0) ∙ ap (λ x. pair v x) p.1)
  | inr b ↦ let p = one_if-Contains (link.1 == v) link.0 m b in inr (ap (λ x. pair link.0 x) (eqb-true _ _ p.0) ∙ ap (λ x. pair x v) p.1)
]

pub joined-Linked : (links : List (ℕ × ℕ)) (v m : ℕ) → Contains (flat_map (joined v) links) m → Linked links v m
joined-Linked links v m h =
    let w = flat_map-Contains (joined v) links m h in
    elim (joined-Contains v m w.0 w.1.1) [
      | inl is ↦ inl (subst (λ (l : ℕ × ℕ). Contains links l) is w.1.0)
      | inr is ↦ inr (subst (λ (l : ℕ × ℕ). Contains links l) is w.1.0)
    ]

pub Linked-joined : (links : List (ℕ × ℕ)) (v m : ℕ) → Linked links v m → Contains (flat_map (joined v) links) m
Linked-joined links v m (inl h) = Contains-flat_map (joined v) links (v, m) m h (Contains-append_left (one_if (v == v) m) (one_if (m == v) v) m (Contains-one_if (v == v) m m (eq-eqb v v refl) refl))
Linked-joined links v m (inr h) = Contains-flat_map (joined v) links (m, v) m h (Contains-append_right (one_if (m == v) v) (one_if (v == v) m) m (Contains-one_if (v == v) m m (eq-eqb v v refl) refl))

pub Linked-from : (links : List (ℕ × ℕ)) (v : ℕ) (ms : List ℕ) → ms ≡ flat_map (joined v) links → (m : ℕ) → Contains ms m ↔ Linked links v m
Linked-from links v ms is m =
    (λ h. joined-Linked links v m (subst (λ (xs : List ℕ). Contains xs m) is h), λ h. subst (λ (xs : List ℕ). Contains xs m) (sym is) (Linked-joined links v m h))

-- in another order they are the same
pub Linked-moved : (links : List (ℕ × ℕ)) (v : ℕ) (ms ns : List ℕ) → IsPermutation ms ns → ((m : ℕ) → Contains ms m ↔ Linked links v m) → (m : ℕ) → Contains ns m ↔ Linked links v m
Linked-moved links v ms ns moved are m =
    (λ h. (are m).0 (Contains-permutation ns ms m (IsPermutation-sym ms ns moved) h), λ h. Contains-permutation ms ns m moved ((are m).1 h))

-- the neighbours of one more switch
pub Adjacent-more : (links : List (ℕ × ℕ)) (graph more : List (List ℕ)) (ns : List ℕ) (n : ℕ) → length graph ≡ n → more ≡ graph ++ ns ∷ [] → ((a m : ℕ) → a < n → Adjacent graph a m ↔ Linked links a m)
    → ((m : ℕ) → Contains ns m ↔ Linked links n m) → (a m : ℕ) → a < n + 1 → Adjacent more a m ↔ Linked links a m
Adjacent-more links graph more ns n count is linked new a m lt =
    elim (cases_eq a n) [
      | inl same ↦ let at : neighbours_of more a ≡ ns = ap (λ (g : List (List ℕ)). neighbours_of g a) is ∙ get_or_push graph ns [] a (count ∙ sym same) in
          subst (λ (xs : List ℕ). Contains xs m ↔ Linked links a m) (sym at) (subst (λ (b : ℕ). Contains ns m ↔ Linked links b m) (sym same) (new m))
      | inr other ↦ let low : a < length graph = omega arith in
          let at : neighbours_of more a ≡ neighbours_of graph a = ap (λ (g : List (List ℕ)). neighbours_of g a) is ∙ get_or_append_left graph (ns ∷ []) [] a low in
          subst (λ (xs : List ℕ). Contains xs m ↔ Linked links a m) (sym at) (linked a m (omega arith))
    ]

pub rise-more : (graph more : List (List ℕ)) (ns : List ℕ) (n : ℕ) → length graph ≡ n → more ≡ graph ++ ns ∷ [] → ((a : ℕ) → a < n → IsNonDecreasing (neighbours_of graph a)) → IsNonDecreasing ns → (a : ℕ) → a < n + 1 → IsNonDecreasing (neighbours_of more a)
rise-more graph more ns n count is before new a lt =
    elim (cases_eq a n) [
      | inl same ↦ let at : neighbours_of more a ≡ ns = ap (λ (g : List (List ℕ)). neighbours_of g a) is ∙ get_or_push graph ns [] a (count ∙ sym same) in
          subst (λ (xs : List ℕ). IsNonDecreasing xs) (sym at) new
      | inr other ↦ let at : neighbours_of more a ≡ neighbours_of graph a = ap (λ (g : List (List ℕ)). neighbours_of g a) is ∙ get_or_append_left graph (ns ∷ []) [] a (omega arith) in
          subst (λ (xs : List ℕ). IsNonDecreasing xs) (sym at) (before a (omega arith))
    ]
