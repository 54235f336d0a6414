-- Places that are apart, and what is known of two of them.
use Rattle.std.proofs.Common.{◌≡◌, ◌⊎◌, inl, inr, ℕ, zero, suc, ◌<◌, Option, Some, None, List, [], ◌∷◌, ◌++◌, length, get_or, refl, sym, subst, ◌∙◌, arith}
use Rattle.std.specs.Prelude.{slice_get}
use Rattle.std.specs.List.{All}
use Rattle.std.proofs.lemmas.List.Elements.{All-nil, All-push, All-tail}
use Rattle.snap_core.specs.declared.policy.Atom.{Atom}
use Rattle.snap_core.specs.declared.policy.Atom.TheVariants.{Num as Number, Comp}
use Rattle.snap_core.specs.declared.policy.Term.{Term}
use Rattle.snap_diagrams.specs.declared.spots.Asked.{Asked}
use Rattle.snap_diagrams.specs.declared.spots.Asked.TheVariants.{Numbers, Only}
use Rattle.snap_diagrams.specs.declared.spots.TestedPlace.{TestedPlace}
use Rattle.snap_diagrams.specs.declared.survey.Seen.{Seen}
use Rattle.snap_diagrams.specs.declared.survey.Seen.TheVariants.{Few, Many}
use Rattle.snap_diagrams.specs.declared.survey.Survey.{Survey}
use Rattle.snap_diagrams.specs.Quiet.{IndexIsFine, SeenClear, IsClear}
use Rattle.snap_core.specs.Terms.{IsNumber}
use Rattle.snap_diagrams.specs.Spots.{AskedFor, AtomsApart, IndicesApart, SpotsApart, IsAt}

-- one place more, apart from all
pub apart_push : (values : ℕ) (spots : List TestedPlace) (x : TestedPlace) → SpotsApart values spots → All (λ (b : TestedPlace). IndicesApart values b.index x.index) spots → SpotsApart values (spots ++ x ∷ [])
apart_push values [] x h a = (All-nil (λ (b : TestedPlace). IndicesApart values x.index b.index), tt)
apart_push values (y ∷ ys) x h a =
    (All-push (λ (b : TestedPlace). IndicesApart values y.index b.index) ys x h.0 (a 0 y (omega arith)), apart_push values ys x h.1 (All-tail (λ (b : TestedPlace). IndicesApart values b.index x.index) y ys a))

-- the spot of a number
pub at_number : (spots : List TestedPlace) (i : ℕ) (d : TestedPlace) (ix : List Atom) (t : Term) → i < length spots → (get_or spots i d).index ≡ ix → AskedFor (get_or spots i d).asked t → IsAt spots ix t
at_number [] i d ix t l e a = absurd (omega (arith, l))
at_number (x ∷ xs) zero d ix t l e a = inl (e, a)
at_number (x ∷ xs) (suc i) d ix t l e a = inr (at_number xs i d ix t (omega (arith, l)) e a)

-- one term, or two numbers
abbrev pub BothAsked : Term → Term → Type 0
BothAsked t u = (t ≡ u) ⊎ (IsNumber t × IsNumber u)

both_asked : (a : Asked) (t u : Term) → AskedFor a t → AskedFor a u → BothAsked t u
both_asked Numbers t u h i = inr (h, i)
both_asked (Only x) t u h i = inl (h ∙ sym i)

-- what two places of apart spots are
abbrev pub OneOrApart : ℕ → List Atom → List Atom → Term → Term → Type 0
OneOrApart values ix iy t u = ((ix ≡ iy) × BothAsked t u) ⊎ (IndicesApart values ix iy ⊎ IndicesApart values iy ix)

apart_from : (values : ℕ) (iz : List Atom) (spots : List TestedPlace) (ix : List Atom) (t : Term) → All (λ (b : TestedPlace). IndicesApart values iz b.index) spots → IsAt spots ix t → IndicesApart values iz ix
apart_from values iz [] ix t h a = absurd a
apart_from values iz (b ∷ spots) ix t h (inl e) = subst (IndicesApart values iz) e.0 (h 0 b (omega arith))
apart_from values iz (b ∷ spots) ix t h (inr a) = apart_from values iz spots ix t (All-tail (λ (b : TestedPlace). IndicesApart values iz b.index) b spots h) a

pub one_or_apart : (values : ℕ) (spots : List TestedPlace) (ix iy : List Atom) (t u : Term) → SpotsApart values spots → IsAt spots ix t → IsAt spots iy u → OneOrApart values ix iy t u
one_or_apart values [] ix iy t u h a b = absurd a
one_or_apart values (x ∷ xs) ix iy t u h (inl a) (inl b) = inl (sym a.0 ∙ b.0, both_asked x.asked t u a.1 b.1)
one_or_apart values (x ∷ xs) ix iy t u h (inl a) (inr b) = inr (inl (subst (λ (z : List Atom). IndicesApart values z iy) a.0 (apart_from values x.index xs iy u h.0 b)))
one_or_apart values (x ∷ xs) ix iy t u h (inr a) (inl b) = inr (inr (subst (λ (z : List Atom). IndicesApart values z ix) b.0 (apart_from values x.index xs ix t h.0 a)))
one_or_apart values (x ∷ xs) ix iy t u h (inr a) (inr b) = one_or_apart values xs ix iy t u h.1 a b

-- no index is apart from itself
not_apart : (values : ℕ) (a : Atom) → AtomsApart values a a → ⊥
not_apart values (Number n) h = h refl
not_apart values (Comp c) h = h.0 refl

pub not_apart_itself : (values : ℕ) (ix : List Atom) → IndicesApart values ix ix → ⊥
not_apart_itself values ix (inl h) = h refl
not_apart_itself values ix (inr h) = not_apart values (get_or ix h.0 (Number 0)) h.3

-- ---- what a survey says of an array
abbrev pub ClearAt : ℕ → Option Seen → Type 0
ClearAt values (Some s) = SeenClear values s
ClearAt values None = Unit {0}

all_clear : (values : ℕ) (xs : List Seen) (v : ℕ) → All (SeenClear values) xs → ClearAt values (slice_get xs v)
all_clear values [] v h = tt
all_clear values (x ∷ xs) zero h = h 0 x (omega arith)
all_clear values (x ∷ xs) (suc v) h = all_clear values xs v (All-tail (SeenClear values) x xs h)

pub clear_at : (s : Survey) (v : ℕ) → IsClear s → ClearAt s.values (slice_get s.arrays.items v)
clear_at s v h = all_clear s.values s.arrays.items v h

-- two fine tests of one place ask for one term, or for numbers
pub same_asked : (s : Survey) (seen : Option Seen) (ix : List Atom) (t u : Term) → ClearAt s.values seen → IndexIsFine s seen ix t → IndexIsFine s seen ix u → BothAsked t u
same_asked s (Some (Few spots)) ix t u clear a b = elim (one_or_apart s.values spots.items ix ix t u clear a b) [
  | inl h ↦ h.1
  | inr h ↦ absurd (elim h [ inl x ↦ not_apart_itself s.values ix x | inr x ↦ not_apart_itself s.values ix x ])
]
same_asked s (Some Many) ix t u clear a b = inr (a.1, b.1)
same_asked s None ix t u clear a b = absurd a
