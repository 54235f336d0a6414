-- Predicates turned round.
use Rattle.std.proofs.Common.{◌≡◌, ◌⊎◌, inl, inr, ℕ, Bool, true, false, not, cond, List, [], ◌∷◌, refl, ap, ◌∙◌, arith, pow_pos}
use Rattle.std.specs.Prelude.{All}
use Rattle.std.proofs.lemmas.List.Elements.{All-from_recursion, All-nil}
use Rattle.snap_core.specs.declared.policy.Test.{Test}
use Rattle.snap_core.specs.Arrays.{Arrays}
use Rattle.snap_core.specs.declared.policy.Atom.{Atom}
use Rattle.snap_diagrams.specs.declared.leaf.Leaf.{Leaf}
use Rattle.snap_diagrams.specs.declared.leaf.Leaf.TheVariants.{Race, Go as Goes}
use Rattle.snap_diagrams.specs.Leaves.{answer_of}
use Rattle.snap_core.specs.Tests.{passes}
use Rattle.snap_diagrams.specs.Diagrams.{Diagram, Only, Asks, walk}
use Rattle.snap_core.specs.Tests.{PartFits, OutFits}
use Rattle.snap_diagrams.specs.Bounds.{Sizes, LeafIn, UpdateIn}
use Rattle.snap_diagrams.specs.Picks.{IsDiagram}
use Rattle.snap_diagrams.specs.Pruned.{IsShaped}
use Rattle.snap_diagrams.proofs.Comparing.{above_trans}
use Rattle.snap_compose.specs.Predicates.{IsPredicateLeaf, any_outs, passed, reads_of, test_answer, turned_outs, negate_leaf, IsNegated}
use Rattle.snap_compose.proofs.Tested.{answer_is, LogsNoWrite}

turned_in : (s : Sizes) (xs : List (List (ℕ × Atom))) → All (OutFits s.comps) (turned_outs xs)
turned_in s [] = All-from_recursion (OutFits s.comps) ([] ∷ []) (All-nil (PartFits s.comps), tt)
turned_in s (x ∷ xs) = All-nil (OutFits s.comps)

negate_in : (s : Sizes) (l : Leaf) → LeafIn s l → LeafIn s (negate_leaf l)
negate_in s Race h = tt
negate_in s (Goes g) h = (turned_in s g.outs, All-nil (UpdateIn s), h.2, omega (arith, pow_pos s.arrays))

pub negated_leaf : (d r : Diagram) (l x : Leaf) → d ≡ Only l → x ≡ negate_leaf l → r ≡ Only x → IsNegated d r
negated_leaf d r l x e f g = rw (e, g, f) (record {
  walks = λ m k. refl;
  keeps = λ ranks s i. record { ordered = tt; bounds = negate_in s l i.bounds };
  above = λ ranks s low i a. tt;
})

-- a test over two diagrams turned round
pub negated_both : (t : Test) (d y n ry rn r : Diagram) → d ≡ Asks t y n → IsNegated y ry → IsNegated n rn → IsShaped t ry rn r → IsNegated d r
negated_both t d y n ry rn r e hy hn shape = rw e (by shape)
  where
    parts_y : (ranks : List ℕ) (s : Sizes) → IsDiagram ranks s (Asks t y n) → IsDiagram ranks s y
    parts_y ranks s i = record { ordered = i.ordered.2; bounds = i.bounds.1 }

    parts_n : (ranks : List ℕ) (s : Sizes) → IsDiagram ranks s (Asks t y n) → IsDiagram ranks s n
    parts_n ranks s i = record { ordered = i.ordered.3; bounds = i.bounds.2 }

    ways : (b : Bool) (m : Arrays) (k : List ℕ) → cond b (walk ry m k) (walk rn m k) ≡ negate_leaf (cond b (walk y m k) (walk n m k))
    ways true m k = hy.walks m k
    ways false m k = hn.walks m k

    same : (b : Bool) (m : Arrays) (k : List ℕ) → ry ≡ rn → walk ry m k ≡ negate_leaf (cond b (walk y m k) (walk n m k))
    same true m k q = hy.walks m k
    same false m k q = ap (λ (x : Diagram). walk x m k) q ∙ hn.walks m k

    by : IsShaped t ry rn r → IsNegated (Asks t y n) r
    by (inl f) = rw f (record {
      walks = λ m k. ways (passes t m k) m k;
      keeps = λ ranks s i. record {
        ordered = (hy.above ranks s t (parts_y ranks s i) i.ordered.0, hn.above ranks s t (parts_n ranks s i) i.ordered.1, (hy.keeps ranks s (parts_y ranks s i)).ordered, (hn.keeps ranks s (parts_n ranks s i)).ordered);
        bounds = (i.bounds.0, (hy.keeps ranks s (parts_y ranks s i)).bounds, (hn.keeps ranks s (parts_n ranks s i)).bounds);
      };
      above = λ ranks s low i a. a;
    })
    by (inr f) = rw f.0 (record {
      walks = λ m k. same (passes t m k) m k f.1;
      keeps = λ ranks s i. hy.keeps ranks s (parts_y ranks s i);
      above = λ ranks s low i a. hy.above ranks s low (parts_y ranks s i) (above_trans ranks low t y a i.ordered.0);
    })

turned_test : (xs : List (List (ℕ × Atom))) → ((turned_outs xs ≡ []) ⊎ (turned_outs xs ≡ [] ∷ [])) × (any_outs (turned_outs xs) ≡ not (any_outs xs))
turned_test [] = (inr refl, refl)
turned_test (x ∷ xs) = (inl refl, refl)

negate_is : (l : Leaf) → IsPredicateLeaf l → IsPredicateLeaf (negate_leaf l) × (passed (negate_leaf l) ≡ not (passed l)) × (reads_of (negate_leaf l) ≡ reads_of l) × LogsNoWrite (negate_leaf l)
negate_is Race h = absurd h
negate_is (Goes g) h = let t = turned_test g.outs in ((refl, t.0), t.1, refl, refl)

pub negated_answer : (d r : Diagram) (m : Arrays) (k : List ℕ) → IsNegated d r → IsPredicateLeaf (walk d m k) → IsPredicateLeaf (walk r m k) × (answer_of (walk r m k) k ≡ test_answer (not (passed (walk d m k))) (reads_of (walk d m k)) k)
negated_answer d r m k j h =
    let i = negate_is (walk d m k) h in
    let p : IsPredicateLeaf (walk r m k) = rw (j.walks m k) i.0 in
    (p, answer_is (walk r m k) k p (rw (j.walks m k) i.3) ∙ (rw (j.walks m k, i.1, i.2) refl))
