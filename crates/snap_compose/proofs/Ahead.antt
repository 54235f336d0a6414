-- Tests that a leaf misses, asked before it.
use Rattle.std.proofs.Common.{◌≡◌, ℕ, ◌<◌, ◌≤◌, arith, length, Bool, true, false, cond, List, [], ◌∷◌, Option, refl, sym, ap, subst, ◌∙◌, get_or}
use Rattle.std.specs.Prelude.{option_map}
use Rattle.std.specs.List.{All}
use Rattle.std.proofs.lemmas.Bool.{cond-true, cond-false}
use Rattle.std.proofs.lemmas.List.Elements.{All-nil, All-tail, All-weaker}
use Rattle.snap_core.proofs.Elements.{map-agree}
use Rattle.snap_dep.specs.Ranks.{Grouping}
use Rattle.snap_core.specs.declared.policy.Atom.{Atom}
use Rattle.snap_core.specs.declared.policy.Test.{Test}
use Rattle.snap_core.specs.declared.policy.Update.{Update}
use Rattle.snap_core.specs.Arrays.{Arrays, updates}
use Rattle.snap_core.specs.Packets.{PacketSet, listed, set_of, IsRising}
use Rattle.snap_core.specs.Tests.{after_out, results_from, results, passes}
use Rattle.snap_core.specs.Meaning.{Meaning, logged, all_together}
use Rattle.snap_core.proofs.Rising.{listed-set_of}
use Rattle.snap_compose.proofs.Inserted.{inserted, All-inserted, set_of-none, rising_inserted, set_of-inserted}
use Rattle.snap_context.specs.View.{View}
use Rattle.snap_diagrams.specs.declared.leaf.Leaf.{Leaf}
use Rattle.snap_diagrams.specs.declared.leaf.Leaf.TheVariants.{Race, Go as Goes}
use Rattle.snap_diagrams.specs.declared.node.Node.{Node}
use Rattle.snap_diagrams.specs.Bounds.{Sizes}
use Rattle.snap_diagrams.specs.Diagrams.{Diagram, Asks, walk, diagram}
use Rattle.snap_diagrams.specs.Leaves.{answer_of, outcome_of}
use Rattle.snap_diagrams.specs.Picks.{IsWellFormedDiagram, IsDiagram, IsSide, sizes}
use Rattle.snap_diagrams.proofs.Picking.{yes_part, no_part}
use Rattle.snap_compose.specs.declared.marks.Mark.{Mark}
use Rattle.snap_compose.specs.Substituted.{outcome_at}
use Rattle.snap_compose.specs.Marks.{IsMarkedBy, LeafMarked, SetsAmong, TestMissed, UpdatesAmong}
use Rattle.snap_compose.specs.Sequence.{in_sequence}
use Rattle.snap_compose.specs.Spread.{IsChained}
use Rattle.snap_compose.specs.declared.expanding.Pair.{Pair}
use Rattle.snap_compose.specs.Turns.{IsAlong, IsAskedFirst, IsLeft, SameWhere}
use Rattle.snap_compose.proofs.Marked.{leaf_marked, test_missed}

-- ---- what holds of each packet that outs give
each_result : (P : List ℕ → Type 0) (k : List ℕ) (os : List (List (ℕ × Atom))) (ks : List (List ℕ)) → IsRising ks → All P ks → All (λ o. P (after_out o k)) os → All P (listed (results_from (set_of ks) os k))
each_result P k [] ks r old new = subst (All P) (sym (listed-set_of ks r)) old
each_result P k (o ∷ os) ks r old new =
    let p : List ℕ = after_out o k in
    subst (λ (s : PacketSet). All P (listed (results_from s os k))) (set_of-inserted p ks (inserted p ks) r refl)
    (each_result P k os (inserted p ks) (rising_inserted p ks (inserted p ks) r refl) (All-inserted P p ks (new 0 o (omega arith)) old)
    (All-tail (λ o. P (after_out o k)) o os new))

each_of_results : (P : List ℕ → Type 0) (k : List ℕ) (os : List (List (ℕ × Atom))) → All (λ o. P (after_out o k)) os → All P (listed (results os k))
each_of_results P k os h = subst (λ (s : PacketSet). All P (listed (results_from s os k))) set_of-none (each_result P k os [] refl (All-nil P) h)

-- ---- a leaf, and then either of two diagrams that go alike where a test gives an answer
outs_missed : (mk : Mark) (t : Test) (given : Bool) (us : List Update) (m : Arrays) (k : List ℕ) (os : List (List (ℕ × Atom))) → TestMissed mk t → All (SetsAmong mk.sets) os → UpdatesAmong mk.updates us → passes t m k ≡ given
    → All (λ o. passes t (updates m us k) (after_out o k) ≡ given) os
outs_missed mk t given us m k os miss hs hu is = λ i d l. test_missed mk t (get_or os i d) us m k miss (hs i d l) hu ∙ is

pub leaf_then : (mk : Mark) (t : Test) (given : Bool) (l : Leaf) (d e : Diagram) (m : Arrays) (k : List ℕ) → LeafMarked mk l → TestMissed mk t → passes t m k ≡ given
    → ((n : Arrays) (q : List ℕ) → passes t n q ≡ given → walk e n q ≡ walk d n q)
    → in_sequence (outcome_of (answer_of l k) m) (outcome_at e) ≡ in_sequence (outcome_of (answer_of l k) m) (outcome_at d)
leaf_then mk t given Race d e m k h miss is same = refl
leaf_then mk t given (Goes g) d e m k h miss is same =
    let m1 : Arrays = updates m g.ups k in
    ap (λ (os : List (Option Meaning)). option_map (logged g.reads g.writes) (all_together m1 os))
    (map-agree (λ q. outcome_at e m1 q) (λ q. outcome_at d m1 q) (listed (results g.outs k))
    (All-weaker (λ q. passes t m1 q ≡ given) (λ q. outcome_at e m1 q ≡ outcome_at d m1 q) (λ q p. ap (λ (l : Leaf). outcome_of (answer_of l q) m1) (same m1 q p)) (listed (results g.outs k))
    (each_of_results (λ q. passes t m1 q ≡ given) k g.outs (outs_missed mk t given g.ups m k g.outs miss h.0 h.1 is))))

pub along_missed : (ranks : List ℕ) (s : Sizes) (mk : Mark) (t : Test) (given : Bool) (d r : Diagram) → TestMissed mk t → IsSide ranks s t given d r → IsAlong ranks s mk t given d r
along_missed ranks s mk t given d r miss side = record { keeps = side.keeps; same = λ l m k h is. leaf_then mk t given l d r m k h miss is side.walks }

pub along_itself : (ranks : List ℕ) (s : Sizes) (mk : Mark) (t : Test) (given : Bool) (d : Diagram) → IsDiagram ranks s d → IsAlong ranks s mk t given d d
along_itself ranks s mk t given d keeps = record { keeps = keeps; same = λ l m k h is. refl }

-- ---- a test before both
same_where : (mk : Mark) (t : Test) (given : Bool) (a b d e : Diagram) → IsMarkedBy mk a → ((m : Arrays) (k : List ℕ) → passes t m k ≡ given → walk b m k ≡ walk a m k)
    → ((l : Leaf) (m : Arrays) (k : List ℕ) → LeafMarked mk l → passes t m k ≡ given → in_sequence (outcome_of (answer_of l k) m) (outcome_at e) ≡ in_sequence (outcome_of (answer_of l k) m) (outcome_at d))
    → SameWhere t given a d b e
same_where mk t given a b d e h first second = λ m k is.
    ap (λ (l : Leaf). in_sequence (outcome_of (answer_of l k) m) (outcome_at e)) (first m k is) ∙ second (walk a m k) m k (leaf_marked mk a m k h) is

yes_walk : (t : Test) (y n d : Diagram) (m : Arrays) (k : List ℕ) → d ≡ Asks t y n → passes t m k ≡ true → walk y m k ≡ walk d m k
yes_walk t y n d m k e is = rw e (sym (cond-true (passes t m k) (walk y m k) (walk n m k) is))

no_walk : (t : Test) (y n d : Diagram) (m : Arrays) (k : List ℕ) → d ≡ Asks t y n → passes t m k ≡ false → walk n m k ≡ walk d m k
no_walk t y n d m k e is = rw e (sym (cond-false (passes t m k) (walk y m k) (walk n m k) is))

module _ (groups : Grouping) (v : View) (ns : List (Node Leaf)) (mk : Mark) (a d : ℕ) (t : Test) where
  -- the second asks it
  pub second_asks : (y n : ℕ) (p q : Pair) → IsMarkedBy mk (diagram ns a) → TestMissed mk t → IsDiagram groups.ranks (sizes groups v) (diagram ns d)
      → (diagram ns d ≡ Asks t (diagram ns y) (diagram ns n)) × (y < d) × (n < d) → p.second ≡ y → q.second ≡ n → p.first ≤ a → q.first ≤ a
      → IsSide groups.ranks (sizes groups v) t true (diagram ns a) (diagram ns p.first) → IsSide groups.ranks (sizes groups v) t false (diagram ns a) (diagram ns q.first)
      → IsAskedFirst groups v ns a d t p q
  second_asks y n p q marked miss keeps part ep eq lp lq sp sq =
      let j = subst (IsDiagram groups.ranks (sizes groups v)) part.0 keeps in
      record {
        bounds = j.bounds.0;
        yes = record {
          first = lp;
          second = rw ep (omega (arith, part.1));
          falls = rw ep (omega (arith, part.1, lp));
          keeps_first = sp.keeps;
          keeps_second = rw ep (yes_part groups.ranks (sizes groups v) t (diagram ns y) (diagram ns n) j);
          same = same_where mk t true (diagram ns a) (diagram ns p.first) (diagram ns d) (diagram ns p.second) marked sp.walks
              (λ l m k h is. leaf_then mk t true l (diagram ns d) (diagram ns p.second) m k h miss is (λ o r w. rw ep (yes_walk t (diagram ns y) (diagram ns n) (diagram ns d) o r part.0 w)));
        };
        no = record {
          first = lq;
          second = rw eq (omega (arith, part.2));
          falls = rw eq (omega (arith, part.2, lq));
          keeps_first = sq.keeps;
          keeps_second = rw eq (no_part groups.ranks (sizes groups v) t (diagram ns y) (diagram ns n) j);
          same = same_where mk t false (diagram ns a) (diagram ns q.first) (diagram ns d) (diagram ns q.second) marked sq.walks
              (λ l m k h is. leaf_then mk t false l (diagram ns d) (diagram ns q.second) m k h miss is (λ o r w. rw eq (no_walk t (diagram ns y) (diagram ns n) (diagram ns d) o r part.0 w)));
        };
      }

  -- the first asks it
  pub first_asks : (y n : ℕ) (p q : Pair) → IsMarkedBy mk (diagram ns a) → IsDiagram groups.ranks (sizes groups v) (diagram ns a)
      → (diagram ns a ≡ Asks t (diagram ns y) (diagram ns n)) × (y < a) × (n < a) → p.first ≡ y → q.first ≡ n → p.second ≤ d → q.second ≤ d
      → IsAlong groups.ranks (sizes groups v) mk t true (diagram ns d) (diagram ns p.second) → IsAlong groups.ranks (sizes groups v) mk t false (diagram ns d) (diagram ns q.second)
      → IsAskedFirst groups v ns a d t p q
  first_asks y n p q marked keeps part ep eq lp lq ap aq =
      let j = subst (IsDiagram groups.ranks (sizes groups v)) part.0 keeps in
      record {
        bounds = j.bounds.0;
        yes = record {
          first = rw ep (omega (arith, part.1));
          second = lp;
          falls = rw ep (omega (arith, part.1, lp));
          keeps_first = rw ep (yes_part groups.ranks (sizes groups v) t (diagram ns y) (diagram ns n) j);
          keeps_second = ap.keeps;
          same = same_where mk t true (diagram ns a) (diagram ns p.first) (diagram ns d) (diagram ns p.second) marked (λ o r w. rw ep (yes_walk t (diagram ns y) (diagram ns n) (diagram ns a) o r part.0 w)) ap.same;
        };
        no = record {
          first = rw eq (omega (arith, part.2));
          second = lq;
          falls = rw eq (omega (arith, part.2, lq));
          keeps_first = rw eq (no_part groups.ranks (sizes groups v) t (diagram ns y) (diagram ns n) j);
          keeps_second = aq.keeps;
          same = same_where mk t false (diagram ns a) (diagram ns q.first) (diagram ns d) (diagram ns q.second) marked (λ o r w. rw eq (no_walk t (diagram ns y) (diagram ns n) (diagram ns a) o r part.0 w)) aq.same;
        };
      }

pub chained_asked : (groups : Grouping) (v : View) (t : Test) (a d ay dy an dn ry rn r : Diagram) → SameWhere t true a d ay dy → SameWhere t false a d an dn → IsChained groups v dy ay ry → IsChained groups v dn an rn
    → ((m : Arrays) (k : List ℕ) → walk r m k ≡ cond (passes t m k) (walk ry m k) (walk rn m k)) → IsDiagram groups.ranks (sizes groups v) r → IsChained groups v d a r
chained_asked groups v t a d ay dy an dn ry rn r sy sn cy cn w keeps = record {
  chained = λ m k met small.
      let Goal : Bool → Type 0 = λ b. passes t m k ≡ b → outcome_of (answer_of (cond b (walk ry m k) (walk rn m k)) k) m ≡ in_sequence (outcome_at a m k) (outcome_at d) in
      let by : (b : Bool) → Goal b = λ b. elim b as Goal [ true ↦ λ is. cy.chained m k met small ∙ sy m k is | false ↦ λ is. cn.chained m k met small ∙ sn m k is ] in
      ap (λ (l : Leaf). outcome_of (answer_of l k) m) (w m k) ∙ by (passes t m k) refl;
  keeps = keeps;
}

-- ---- what is left are arguments
pub left_first : (groups : Grouping) (v : View) (ns : List (Node Leaf)) (t : Test) (given : Bool) (a d : ℕ) (p : Pair) → a < length ns → IsLeft groups v ns t given a d p → IsWellFormedDiagram groups v ns p.first
left_first groups v ns t given a d p h i = record { below = let l = i.first in omega (arith, l, h); keeps = i.keeps_first }

pub left_second : (groups : Grouping) (v : View) (ns : List (Node Leaf)) (t : Test) (given : Bool) (a d : ℕ) (p : Pair) → d < length ns → IsLeft groups v ns t given a d p → IsWellFormedDiagram groups v ns p.second
left_second groups v ns t given a d p h i = record { below = let l = i.second in omega (arith, l, h); keeps = i.keeps_second }
