-- One of two diagrams.
use Rattle.std.proofs.Common.{◌≡◌, ℕ, Bool, true, false, cond, List, refl, ap, ◌∙◌}
use Rattle.snap_core.specs.declared.policy.Test.{Test}
use Rattle.snap_core.specs.Arrays.{Arrays}
use Rattle.snap_diagrams.specs.declared.leaf.Leaf.{Leaf}
use Rattle.snap_diagrams.specs.declared.leaf.Leaf.TheVariants.{Race, Go as Goes}
use Rattle.snap_diagrams.specs.Leaves.{answer_of}
use Rattle.snap_core.specs.Tests.{passes}
use Rattle.snap_diagrams.specs.Diagrams.{Diagram, Asks, walk}
use Rattle.snap_diagrams.specs.Bounds.{Sizes}
use Rattle.snap_diagrams.specs.Picks.{IsPick, Anywhere}
use Rattle.snap_compose.specs.declared.leaves.How.TheVariants.{Logged}
use Rattle.snap_compose.specs.Joined.{combined}
use Rattle.snap_compose.specs.Predicates.{IsPredicateLeaf, passed, reads_of, more_reads}
use Rattle.snap_compose.specs.Chosen.{IsChosen}

pub chosen_both : (ranks : List ℕ) (s : Sizes) (t : Test) (x y n p q ry rn r : Diagram) → x ≡ Asks t y n → IsChosen ranks s y p q ry → IsChosen ranks s n p q rn → IsPick ranks s Anywhere t ry rn r → IsChosen ranks s x p q r
chosen_both ranks s t x y n p q ry rn r e cy cn k = rw e (record {
  walks = λ m k'. k.walks m k' tt ∙
      (let both : Bool → Leaf = λ b. cond b (walk y m k') (walk n m k') in
      let Goal : Bool → Type 0 = λ b. cond b (walk ry m k') (walk rn m k') ≡ combined Logged (both b) (cond (passed (both b)) (walk p m k') (walk q m k')) in
      let by : (b : Bool) → Goal b = λ b. elim b as Goal [ true ↦ cy.walks m k' | false ↦ cn.walks m k' ] in
      by (passes t m k'));
  keeps = k.keeps;
})

logged_answer : (x y : Leaf) (k : List ℕ) → IsPredicateLeaf x → answer_of (combined Logged x y) k ≡ more_reads (reads_of x) (answer_of y k)
logged_answer Race y k h = absurd h
logged_answer (Goes x) Race k h = refl
logged_answer (Goes x) (Goes y) k h = refl

pub answer_of-chosen : (ranks : List ℕ) (s : Sizes) (x p q r : Diagram) (m : Arrays) (k : List ℕ) → IsChosen ranks s x p q r → IsPredicateLeaf (walk x m k)
    → answer_of (walk r m k) k ≡ more_reads (reads_of (walk x m k)) (cond (passed (walk x m k)) (answer_of (walk p m k) k) (answer_of (walk q m k) k))
answer_of-chosen ranks s x p q r m k c h =
    ap (λ (l : Leaf). answer_of l k) (c.walks m k)
    ∙ logged_answer (walk x m k) (cond (passed (walk x m k)) (walk p m k) (walk q m k)) k h
    ∙ (let Goal : Bool → Type 0 = λ b. more_reads (reads_of (walk x m k)) (answer_of (cond b (walk p m k) (walk q m k)) k) ≡ more_reads (reads_of (walk x m k)) (cond b (answer_of (walk p m k) k) (answer_of (walk q m k) k)) in
    let by : (b : Bool) → Goal b = λ b. elim b as Goal [ true ↦ refl | false ↦ refl ] in
    by (passed (walk x m k)))
