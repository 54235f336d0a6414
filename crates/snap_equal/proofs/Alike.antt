-- When two diagrams surely do the same.
use Rattle.std.proofs.Common.{◌≡◌, ℕ, Bool, List, [], ◌∷◌, length, sym, ◌∙◌, subst, arith}
use Rattle.snap_core.specs.declared.policy.Test.{Test}
use Rattle.snap_core.specs.Arrays.{Arrays}
use Rattle.snap_core.specs.Tests.{passes}
use Rattle.snap_context.specs.declared.context.Assumed.TheVariants.{More}
use Rattle.snap_context.specs.declared.fact.Fact.{Fact}
use Rattle.snap_context.specs.Answers.{IsAssumed}
use Rattle.snap_context.specs.Meets.{Meets}
use Rattle.snap_context.specs.View.{View}
use Rattle.snap_context.proofs.Answers.{Meets-with_fact}
use Rattle.snap_diagrams.specs.declared.node.Node.{Node}
use Rattle.snap_diagrams.specs.declared.leaf.Leaf.{Leaf}
use Rattle.snap_diagrams.specs.Diagrams.{diagram}
use Rattle.snap_equal.specs.Leaves.{DiagramsDoSame, PairMet}
use Rattle.snap_equal.specs.declared.comparing.Compared.{Compared}
use Rattle.snap_equal.specs.declared.comparing.Compared.TheVariants.{Same, Differ}
use Rattle.snap_equal.specs.Same.{IsCompared}
use Rattle.snap_equal.specs.Told.{IsAnswer, On}
use Rattle.snap_equal.specs.Weaker.{IsWeaker, facts_code}
use Rattle.snap_equal.proofs.FactCodes.{same_facts}

-- ---- a context of fewer facts
pub under_weaker : (v w : View) (P : Arrays → List ℕ → Type 0) → IsWeaker v w → On w P → On v P
under_weaker v w P is h = λ m k i. h m k (record {
  store = i.store;
  packet = record { long = i.packet.long ∙ sym is.same; numbers = i.packet.numbers };
  facts = is.meets m k i.facts;
})

pub weaker_more : (v w x : View) (t : Test) (y : Bool) → IsWeaker v w → IsAssumed w t y (More x) → ((m : Arrays) (k : List ℕ) → Meets v.facts m k → passes t m k ≡ y) → IsWeaker v x
weaker_more v w x t y is a h = record {
  same = a.1 ∙ is.same;
  meets = λ m k f. subst (λ (fs : List Fact). Meets fs m k) (sym a.0) (Meets-with_fact w.facts t y m k (is.meets m k f) (h m k f));
}

-- ---- what is remembered
module _ (v : View) (ns os : List (Node Leaf)) (first second : ℕ) (key : List ℕ) (is : key ≡ first ∷ second ∷ facts_code v.facts) (d : ℕ) where
  pub pair_met : (d ≡ 1 → On v (DiagramsDoSame (diagram ns first) (diagram os second))) → PairMet (length v.classes) ns os key d
  pair_met h x y fs q e m k s p f =
      let whole : first ∷ second ∷ facts_code v.facts ≡ x ∷ y ∷ facts_code fs = sym is ∙ q in
      let hx : first ≡ x = grind arith in
      let hy : second ≡ y = grind arith in
      let hf : facts_code v.facts ≡ facts_code fs = grind arith in
      let here : DiagramsDoSame (diagram ns first) (diagram os second) m k =
      h e m k (record { store = s; packet = p; facts = subst (λ (gs : List Fact). Meets gs m k) (sym (same_facts v.facts fs hf)) f }) in
      subst (λ a. DiagramsDoSame (diagram ns a) (diagram os y) m k) hx (subst (λ b. DiagramsDoSame (diagram ns first) (diagram os b) m k) hy here)

-- ---- the whole comparison
pub compared : (comps arrays : ℕ) (ns os : List (Node Leaf)) (d e : ℕ) (v : View) (c : Compared) → v.facts ≡ [] → length v.classes ≡ comps
    → IsAnswer v arrays (DiagramsDoSame (diagram ns d) (diagram os e)) c → IsCompared comps arrays ns d os e c
compared comps arrays ns os d e v Same none size h = λ m k s p. h m k (record {
  store = s;
  packet = record { long = p.long ∙ sym size; numbers = p.numbers };
  facts = subst (λ (fs : List Fact). Meets fs m k) (sym none) (λ i f l. absurd (omega (arith, l)));
})
compared comps arrays ns os d e v (Differ s k) none size h = record {
  of = record { store = h.model.store; only = h.only; packet = record { long = h.model.packet.long ∙ size; numbers = h.model.packet.numbers } };
  differ = h.fails;
}
