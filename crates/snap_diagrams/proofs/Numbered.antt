-- A list of nodes with one more.
use Rattle.std.proofs.Common.{◌≡◌, ◌⊎◌, inl, inr, ℕ, suc, zero, take, Bool, true, false, List, [], ◌∷◌, ◌++◌, length, Some, None, refl, sym, ap, subst, ◌∙◌, arith}
use Rattle.std.specs.Prelude.{slice_get, if◌then◌else◌}
use Rattle.std.specs.Str.{bytes_eq}
use Rattle.std.proofs.lemmas.Bool.{cond-true, cond-false}
use Rattle.std.proofs.Math.Seq.{take-append_seam}
use Rattle.std.proofs.lemmas.Option.{slice_get_within}
use Rattle.std.proofs.lemmas.Slice.Eq.{bytes_eq-Decides}
use Rattle.snap_core.specs.Cells.{Cells, cell}
use Rattle.snap_diagrams.specs.declared.node.Node.{Node}
use Rattle.snap_diagrams.specs.Codes.{node_code}
use Rattle.snap_diagrams.specs.Arena.{IsLower, IsNoted, IsNumbered, StandsAt}
use Rattle.snap_diagrams.proofs.Injective.{same_node}

pub slice_get-append : {X : Type 0} (xs ys : List X) (i : ℕ) (x : X) → slice_get xs i ≡ Some x → slice_get (xs ++ ys) i ≡ Some x
slice_get-append [] ys i x e = absurd (cc)
slice_get-append (y ∷ xs) ys zero x e = e
slice_get-append (y ∷ xs) ys (suc i) x e = slice_get-append xs ys i x e

pub slice_get-append_last : {X : Type 0} (xs : List X) (x : X) → slice_get (xs ++ x ∷ []) (length xs) ≡ Some x
slice_get-append_last [] x = refl
slice_get-append_last (y ∷ xs) x = slice_get-append_last xs x

-- an element is an old one, or the last
pub slice_get-push_cases : {X : Type 0} (xs : List X) (y : X) (i : ℕ) (x : X) → slice_get (xs ++ y ∷ []) i ≡ Some x → (slice_get xs i ≡ Some x) ⊎ ((i ≡ length xs) × (y ≡ x))
slice_get-push_cases [] y zero x e = inr (refl, cc)
slice_get-push_cases [] y (suc i) x e = absurd (cc)
slice_get-push_cases (z ∷ xs) y zero x e = inl e
slice_get-push_cases (z ∷ xs) y (suc i) x e = elim (slice_get-push_cases xs y i x e) [ inl f ↦ inl f | inr p ↦ inr (ap suc p.0, p.1) ]

-- the last one taken away again
pub undone : {X : Type 0} (xs ys zs : List X) (x : X) (k : ℕ) → ys ≡ xs ++ x ∷ [] → k ≡ length xs → zs ≡ take k ys → zs ≡ xs
undone xs ys zs x k e l t = t ∙ (λ i. take (l i) (e i)) ∙ take-append_seam xs (x ∷ [])

-- a number found by its code is the node's
pub at_found : {L : Type 0} (code : L → List ℕ) → ((a b : L) → code a ≡ code b → a ≡ b) → (ns : List (Node L)) (numbers : Cells) → IsNumbered code ns numbers
    → (n : Node L) (d : ℕ) → cell numbers (node_code code n) ≡ Some d → slice_get ns d ≡ Some n
at_found code one ns numbers i n d e = let s = i.found (node_code code n) d e in s.at ∙ ap Some (same_node code one s.node n s.is)

pub noted_old : {L : Type 0} (code : L → List ℕ) → ((a b : L) → code a ≡ code b → a ≡ b) → (ns : List (Node L)) (numbers : Cells) → IsNumbered code ns numbers
    → (n : Node L) (d : ℕ) → cell numbers (node_code code n) ≡ Some d → IsNoted ns n ns d
noted_old code one ns numbers i n d e =
    let at = at_found code one ns numbers i n d e in
    let w = slice_get_within ns d n at in
    record { at = at; known = λ l. refl; next = λ l. absurd (omega (arith, w, l)) }

pub noted_new : {L : Type 0} (ns : List (Node L)) (n : Node L) → IsNoted ns n (ns ++ n ∷ []) (length ns)
noted_new ns n = record { at = slice_get-append_last ns n; known = λ l. absurd (omega (arith, l)); next = λ l. (refl, refl) }

module _ {L : Type 0} (code : L → List ℕ) (ns : List (Node L)) (n : Node L) (old new : Cells) (i : IsNumbered code ns old) (none : cell old (node_code code n) ≡ None)
    (more : (q : List ℕ) → cell new q ≡ (if bytes_eq (node_code code n) q then Some (length ns) else cell old q)) where
  found_now : (q : List ℕ) (d : ℕ) (b : Bool) → bytes_eq (node_code code n) q ≡ b → cell new q ≡ Some d → StandsAt code (ns ++ n ∷ []) d q
  found_now q d true t e =
      let same : length ns ≡ d = (let m = more q ∙ cond-true (bytes_eq (node_code code n) q) (Some (length ns)) (cell old q) t in cc) in
      record { node = n; at = subst (λ (j : ℕ). slice_get (ns ++ n ∷ []) j ≡ Some n) same (slice_get-append_last ns n); is = (bytes_eq-Decides (node_code code n) q).0 t }
  found_now q d false f e =
      let s = i.found q d (sym (more q ∙ cond-false (bytes_eq (node_code code n) q) (Some (length ns)) (cell old q) f) ∙ e) in
      record { node = s.node; at = slice_get-append ns (n ∷ []) d s.node s.at; is = s.is }

  -- an old node has another code
  all_now : (d : ℕ) (o : Node L) (b : Bool) → bytes_eq (node_code code n) (node_code code o) ≡ b → slice_get ns d ≡ Some o → cell new (node_code code o) ≡ Some d
  all_now d o true t at =
      let same = (bytes_eq-Decides (node_code code n) (node_code code o)).0 t in
      let there = i.all d o at in
      absurd (let gone : cell old (node_code code o) ≡ None = subst (λ (q : List ℕ). cell old q ≡ None) same none in cc)
  all_now d o false f at = more (node_code code o) ∙ cond-false (bytes_eq (node_code code n) (node_code code o)) (Some (length ns)) (cell old (node_code code o)) f ∙ i.all d o at

  last_now : cell new (node_code code n) ≡ Some (length ns)
  last_now = more (node_code code n) ∙ cond-true (bytes_eq (node_code code n) (node_code code n)) (Some (length ns)) (cell old (node_code code n)) ((bytes_eq-Decides (node_code code n) (node_code code n)).1 refl)

  pub numbered_more : IsLower (length ns) n → IsNumbered code (ns ++ n ∷ []) new
  numbered_more low = record {
    lower = λ d o e. elim (slice_get-push_cases ns n d o e) [ inl f ↦ i.lower d o f | inr p ↦ rw (p.0, sym p.1) low ];
    found = λ q d e. found_now q d (bytes_eq (node_code code n) q) refl e;
    all = λ d o e. elim (slice_get-push_cases ns n d o e) [ inl f ↦ all_now d o (bytes_eq (node_code code n) (node_code code o)) refl f | inr p ↦ rw (p.0, sym p.1) last_now ];
  }
