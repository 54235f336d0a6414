-- Predicates combined.
use Rattle.std.proofs.Common.{◌≡◌, ◌⊎◌, inl, inr, ℕ, ◌&&◌, ◌||◌, List, [], ◌∷◌, refl, ◌∙◌, bit_or}
use Rattle.std.specs.Prelude.{⊤}
use Rattle.snap_core.specs.Arrays.{Arrays}
use Rattle.snap_core.specs.declared.policy.Atom.{Atom}
use Rattle.snap_diagrams.specs.declared.leaf.Leaf.{Leaf}
use Rattle.snap_diagrams.specs.declared.leaf.Leaf.TheVariants.{Race, Go as Goes}
use Rattle.snap_diagrams.specs.Leaves.{answer_of}
use Rattle.snap_diagrams.specs.Diagrams.{Diagram, walk}
use Rattle.snap_diagrams.specs.Bounds.{Sizes}
use Rattle.snap_compose.specs.declared.leaves.How.TheVariants.{AndBoth, OrEither}
use Rattle.snap_compose.specs.Joined.{IsJoined, both_outs, either_outs, both_leaf, either_leaf}
use Rattle.snap_compose.specs.Predicates.{IsPredicateLeaf, any_outs, passed, reads_of, test_answer}

-- a leaf that logs no write
abbrev pub LogsNoWrite : Leaf → Type 0
LogsNoWrite Race = ⊤
LogsNoWrite (Goes g) = g.writes ≡ 0

abbrev IsTestOuts : List (List (ℕ × Atom)) → Type 0
IsTestOuts xs = (xs ≡ []) ⊎ (xs ≡ [] ∷ [])

both_test : (xs ys : List (List (ℕ × Atom))) → IsTestOuts xs → IsTestOuts ys → IsTestOuts (both_outs xs ys) × (any_outs (both_outs xs ys) ≡ (any_outs xs && any_outs ys))
both_test [] ys hx hy = (inl refl, refl)
both_test (x ∷ xs) ys hx hy = (hy, refl)

either_test : (xs ys : List (List (ℕ × Atom))) → IsTestOuts xs → IsTestOuts ys → IsTestOuts (either_outs xs ys) × (any_outs (either_outs xs ys) ≡ (any_outs xs || any_outs ys))
either_test [] ys hx hy = (hy, refl)
either_test (x ∷ xs) ys hx hy = (hx, refl)

pub both_leaf_is : (x y : Leaf) → IsPredicateLeaf x → IsPredicateLeaf y → IsPredicateLeaf (both_leaf x y) × (passed (both_leaf x y) ≡ (passed x && passed y)) × (reads_of (both_leaf x y) ≡ bit_or (reads_of x) (reads_of y)) × LogsNoWrite (both_leaf x y)
both_leaf_is Race y hx hy = absurd hx
both_leaf_is (Goes x) Race hx hy = absurd hy
both_leaf_is (Goes x) (Goes y) hx hy = let t = both_test x.outs y.outs hx.1 hy.1 in ((refl, t.0), t.1, refl, refl)

pub either_leaf_is : (x y : Leaf) → IsPredicateLeaf x → IsPredicateLeaf y → IsPredicateLeaf (either_leaf x y) × (passed (either_leaf x y) ≡ (passed x || passed y)) × (reads_of (either_leaf x y) ≡ bit_or (reads_of x) (reads_of y)) × LogsNoWrite (either_leaf x y)
either_leaf_is Race y hx hy = absurd hx
either_leaf_is (Goes x) Race hx hy = absurd hy
either_leaf_is (Goes x) (Goes y) hx hy = let t = either_test x.outs y.outs hx.1 hy.1 in ((refl, t.0), t.1, refl, refl)

-- a predicate's answer, where no write is logged
pub answer_is : (l : Leaf) (k : List ℕ) → IsPredicateLeaf l → LogsNoWrite l → answer_of l k ≡ test_answer (passed l) (reads_of l) k
answer_is Race k h n = absurd h
answer_is (Goes g) k h n = elim h.1 [ inl e ↦ rw (h.0, e, n) refl | inr e ↦ rw (h.0, e, n) refl ]

pub both_joined : (ranks : List ℕ) (s : Sizes) (a b r : Diagram) → IsJoined ranks s AndBoth a b r → ((m : Arrays) (k : List ℕ) → IsPredicateLeaf (walk a m k)) → ((m : Arrays) (k : List ℕ) → IsPredicateLeaf (walk b m k))
    → (m : Arrays) (k : List ℕ) → IsPredicateLeaf (walk r m k) × (answer_of (walk r m k) k ≡ test_answer (passed (walk a m k) && passed (walk b m k)) (bit_or (reads_of (walk a m k)) (reads_of (walk b m k))) k)
both_joined ranks s a b r j ha hb m k =
    let i = both_leaf_is (walk a m k) (walk b m k) (ha m k) (hb m k) in
    let p : IsPredicateLeaf (walk r m k) = rw (j.walks m k) i.0 in
    (p, answer_is (walk r m k) k p (rw (j.walks m k) i.3) ∙ (rw (j.walks m k, i.1, i.2) refl))

pub either_joined : (ranks : List ℕ) (s : Sizes) (a b r : Diagram) → IsJoined ranks s OrEither a b r → ((m : Arrays) (k : List ℕ) → IsPredicateLeaf (walk a m k)) → ((m : Arrays) (k : List ℕ) → IsPredicateLeaf (walk b m k))
    → (m : Arrays) (k : List ℕ) → IsPredicateLeaf (walk r m k) × (answer_of (walk r m k) k ≡ test_answer (passed (walk a m k) || passed (walk b m k)) (bit_or (reads_of (walk a m k)) (reads_of (walk b m k))) k)
either_joined ranks s a b r j ha hb m k =
    let i = either_leaf_is (walk a m k) (walk b m k) (ha m k) (hb m k) in
    let p : IsPredicateLeaf (walk r m k) = rw (j.walks m k) i.0 in
    (p, answer_is (walk r m k) k p (rw (j.walks m k) i.3) ∙ (rw (j.walks m k, i.1, i.2) refl))
