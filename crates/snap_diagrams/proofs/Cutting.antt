-- Ways that are met, and ways that are not.
use Rattle.std.proofs.Common.{◌≡◌, inl, inr, ℕ, Bool, true, false, cond, List, length, refl, sym, ap, subst, ◌∙◌, arith}
use Rattle.std.specs.Prelude.{◌<◌, ◌≢◌, ◌==◌, Result, Ok, Err, IfOk}
use Rattle.std.proofs.lemmas.Bool.{eqb-false, false_from_ne_true, true_from_ne_false}
use Rattle.std.proofs.lemmas.Bool.Decides.{Decides-eqb}
use Rattle.std.specs.declared.cmp.Ordering.TheVariants.{Less}
use Rattle.snap_core.specs.declared.policy.Test.{Test}
use Rattle.snap_core.specs.declared.policy.Test.TheVariants.{Value, Equal, State}
use Rattle.snap_core.specs.Arrays.{Arrays}
use Rattle.snap_core.specs.Listing.{number_in}
use Rattle.snap_core.specs.Tests.{TestFits, passes}
use Rattle.snap_context.specs.declared.fact.Fact.{Fact}
use Rattle.snap_context.specs.Meets.{Meets, NoneMeets, IsMet, with_fact}
use Rattle.snap_dep.specs.Ranks.{Grouping}
use Rattle.snap_context.specs.View.{View}
use Rattle.snap_context.proofs.Answers.{Meets-parts, Meets-with_fact}
use Rattle.snap_diagrams.specs.declared.node.Node.{Node}
use Rattle.snap_diagrams.specs.declared.node.Node.TheVariants as node
use Rattle.snap_diagrams.specs.Arena.{ExtendsArena, IsNoted}
use Rattle.snap_diagrams.specs.declared.leaf.Leaf.{Leaf}
use Rattle.snap_diagrams.specs.Contexts.{Met}
use Rattle.snap_diagrams.specs.Diagrams.{Diagram, Only, Asks, walk, diagram}
use Rattle.snap_diagrams.specs.Order.{test_cmp, Above}
use Rattle.snap_diagrams.specs.Bounds.{Sizes, TestIn}
use Rattle.snap_diagrams.specs.Picks.{IsDiagram, Where, Anywhere, IsPick, sizes}
use Rattle.snap_diagrams.specs.Pruned.{Someone, With, IsLive, IsPruned, IsShaped}
use Rattle.snap_diagrams.specs.Tested.{TestsOver}
use Rattle.snap_diagrams.proofs.Comparing.{above_trans}
use Rattle.snap_diagrams.proofs.Shared.{new_ask}

-- a context with one more fact
pub record IsMore (v w : View) (t : Test) (b : Bool) : Type 0 where
  pub facts : w.facts ≡ with_fact v.facts t b
  pub count : length w.classes ≡ length v.classes
  pub met : IsMet (length v.classes) (with_fact v.facts t b)

pub met_more : (v w : View) (t : Test) (b : Bool) → IsMore v w t b → (m : Arrays) (k : List ℕ) → Met v m k → Where t b m k → Met w m k
met_more v w t b i m k h p = record { packet = rw i.count h.packet; facts = rw i.facts (Meets-with_fact v.facts t b m k h.facts p) }

met_less : (v w : View) (t : Test) (b : Bool) → IsMore v w t b → (m : Arrays) (k : List ℕ) → Met w m k → With (Met v) t b m k
met_less v w t b i m k h =
    let r = Meets-parts v.facts t b m k (subst (λ (fs : List Fact). Meets fs m k) i.facts h.facts) in
    (record { packet = rw (sym i.count) h.packet; facts = r.0 }, r.1)

none_met : (v : View) (t : Test) (b : Bool) → NoneMeets (length v.classes) (with_fact v.facts t b) → (m : Arrays) (k : List ℕ) → Met v m k → Where t b m k → ⊥
none_met v t b none m k h p = none m k h.packet (Meets-with_fact v.facts t b m k h.facts p)

someone : (v w : View) (t : Test) (b : Bool) → IsMore v w t b → Someone (With (Met v) t b)
someone v w t b i =
    let r = Meets-parts v.facts t b (number_in i.met.entries) i.met.packet i.met.meets in
    record { entries = i.met.entries; packet = i.met.packet; store = i.met.is_store; is = (record { packet = i.met.is_packet; facts = r.0 }, r.1) }

pub live_weaker : (P Q : Arrays → List ℕ → Type 0) → ((m : Arrays) (k : List ℕ) → P m k → Q m k) → (d : Diagram) → IsLive P d → IsLive Q d
live_weaker P Q f (Only l) h = tt
live_weaker P Q f (Asks t y n) h = (
  record { entries = h.0.entries; packet = h.0.packet; store = h.0.store; is = (f _ _ h.0.is.0, h.0.is.1) },
  record { entries = h.1.entries; packet = h.1.packet; store = h.1.store; is = (f _ _ h.1.is.0, h.1.is.1) },
  live_weaker (With P t true) (With Q t true) (λ m k p. (f m k p.0, p.1)) y h.2,
  live_weaker (With P t false) (With Q t false) (λ m k p. (f m k p.0, p.1)) n h.3,
)

pub test_fits : (s : Sizes) (t : Test) → TestIn s t → TestFits s.comps t
test_fits s (Value c n) h = h.0
test_fits s (Equal l r p) h = (omega (arith, h.0, h.1), h.1)
test_fits s (State v ix t) h = (h.1.atoms, h.2)

pub same_sizes : (g : Grouping) (v w : View) (t : Test) (b : Bool) → IsMore v w t b → sizes g w ≡ sizes g v
same_sizes g v w t b i = ap (λ (n : ℕ). record { comps = n; arrays = length g.ranks }) i.count

pub under_more : (g : Grouping) (v w : View) (t : Test) (b : Bool) (d : Diagram) → IsMore v w t b → IsDiagram g.ranks (sizes g v) d → IsDiagram g.ranks (sizes g w) d
under_more g v w t b d i h = subst (λ (s : Sizes). IsDiagram g.ranks s d) (sym (same_sizes g v w t b i)) h

pub keeps_of : (g : Grouping) (v w : View) (t : Test) (b : Bool) (d r : Diagram) → IsMore v w t b → IsPruned g.ranks (sizes g w) w d r → IsDiagram g.ranks (sizes g v) r
keeps_of g v w t b d r i h = subst (λ (s : Sizes). IsDiagram g.ranks s r) (same_sizes g v w t b i) h.keeps

pub pruned_no : (ranks : List ℕ) (s : Sizes) (v : View) (t : Test) (y n d r : Diagram) → d ≡ Asks t y n → IsDiagram ranks s d → NoneMeets (length v.classes) (with_fact v.facts t true)
    → IsPruned ranks s v n r → IsPruned ranks s v d r
pruned_no ranks s v t y n d r e i none p = record {
  walks = λ m k h. p.walks m k h ∙ (rw (e, false_from_ne_true (passes t m k) (none_met v t true none m k h)) refl);
  keeps = p.keeps;
  above = λ low a. p.above low (above_trans ranks low t n (subst (Above ranks low) e a) (subst (IsDiagram ranks s) e i).ordered.1);
  live = p.live;
  tests = λ q o. p.tests q (subst (TestsOver q) e o).3;
  short = rw e (let h = p.short in omega (arith, h));
}

pub pruned_yes : (ranks : List ℕ) (s : Sizes) (v : View) (t : Test) (y n d r : Diagram) → d ≡ Asks t y n → IsDiagram ranks s d → NoneMeets (length v.classes) (with_fact v.facts t false)
    → IsPruned ranks s v y r → IsPruned ranks s v d r
pruned_yes ranks s v t y n d r e i none p = record {
  walks = λ m k h. p.walks m k h ∙ (rw (e, true_from_ne_false (passes t m k) (none_met v t false none m k h)) refl);
  keeps = p.keeps;
  above = λ low a. p.above low (above_trans ranks low t y (subst (Above ranks low) e a) (subst (IsDiagram ranks s) e i).ordered.0);
  live = p.live;
  tests = λ q o. p.tests q (subst (TestsOver q) e o).2;
  short = rw e (let h = p.short in omega (arith, h));
}

pub pruned_both : (ranks : List ℕ) (s : Sizes) (s1 s2 : Sizes) (v w x : View) (t : Test) (y n d ry rn r : Diagram) → d ≡ Asks t y n → IsDiagram ranks s d
    → IsMore v w t true → IsMore v x t false → IsPruned ranks s1 w y ry → IsPruned ranks s2 x n rn → IsPick ranks s Anywhere t ry rn r → IsShaped t ry rn r → IsPruned ranks s v d r
pruned_both ranks s s1 s2 v w x t y n d ry rn r e i my mn py pn p shape = record {
  walks = λ m k h. p.walks m k tt ∙
      (let Goal : Bool → Type 0 = λ b. passes t m k ≡ b → cond b (walk ry m k) (walk rn m k) ≡ cond b (walk y m k) (walk n m k) in
      let by : (b : Bool) → Goal b = λ b. elim b as Goal [ true ↦ λ f. py.walks m k (met_more v w t true my m k h f) | false ↦ λ f. pn.walks m k (met_more v x t false mn m k h f) ] in
      rw e (by (passes t m k) refl));
  keeps = p.keeps;
  above = λ low a.
      let l : test_cmp ranks low t ≡ Less = subst (Above ranks low) e a in
      let o = (subst (IsDiagram ranks s) e i).ordered in
      p.above low l (above_trans ranks low t ry l (py.above t o.0)) (above_trans ranks low t rn l (pn.above t o.1));
  live = elim shape [
    | inl f ↦ rw f (someone v w t true my, someone v x t false mn, live_weaker (Met w) (With (Met v) t true) (met_less v w t true my) ry py.live, live_weaker (Met x) (With (Met v) t false) (met_less v x t false mn) rn pn.live)
    | inr f ↦ rw f.0 (live_weaker (Met w) (Met v) (λ m k h. (met_less v w t true my m k h).0) ry py.live)
  ];
  tests = λ q o. (let u = subst (TestsOver q) e o in elim shape [ inl f ↦ rw f (u.0, u.1, py.tests q u.2, pn.tests q u.3) | inr f ↦ rw f.0 (py.tests q u.2) ]);
  short = (let hy = py.short in let hn = pn.short in elim shape [ inl f ↦ rw (f, e) (omega (arith, hy, hn)) | inr f ↦ rw (f.0, e) (omega (arith, hy)) ]);
}

pub ask_shape : {E : Type 0} (t : Test) (old new : List (Node Leaf)) (y n : ℕ) (r : Result ℕ E) → ExtendsArena old new → y < length old → n < length old
    → IfOk r (λ d. y ≡ n → (d ≡ y) × (new ≡ old)) → IfOk r (λ d. y ≢ n → IsNoted old (node.Ask t y n) new d) → IfOk r (λ d. y ≢ n → (y < d) × (n < d))
    → IfOk r (λ d. IsShaped t (diagram old y) (diagram old n) (diagram new d))
ask_shape t old new y n (Err e) g hy hn both two low = tt
ask_shape t old new y n (Ok d) g hy hn both two low =
    let Goal : Bool → Type 0 = λ v. (y == n) ≡ v → IsShaped t (diagram old y) (diagram old n) (diagram new d) in
    let by : (v : Bool) → Goal v
    = λ v. elim v as Goal [
      | true ↦ λ e. (let same : y ≡ n = (Decides-eqb y n).0 e in let p = both same in inr ((rw (p.0, p.1) refl), ap (diagram old) same))
      | false ↦ λ e. (let differ : y ≢ n = eqb-false y n e in let p = two differ in let l = low differ in inl (new_ask old new d t y n g hy hn l.0 l.1 p.at))
    ] in
    by (y == n) refl
