-- What every context is, from its start and through each assumption.
use Rattle.std.proofs.Common.{◌≡◌, ℕ, ◌<◌, ◌≤◌, true, false, Bool, List, [], ◌∷◌, length, get_or, refl, sym, ap, subst, ◌∙◌, arith}
use Rattle.std.specs.Prelude.{All, slice_index}
use Rattle.std.proofs.lemmas.List.Elements.{All-cons, All-weaker, All-nil}
use Rattle.std.proofs.lemmas.List.{get_or_default}
use Rattle.std.proofs.lemmas.Bool.{false_from_ne_true, true_from_ne_false}
use Rattle.snap_core.specs.declared.policy.Term.{Term}
use Rattle.snap_core.specs.declared.policy.Term.TheVariants.{Plus}
use Rattle.snap_core.specs.declared.policy.Test.{Test}
use Rattle.snap_core.specs.Tests.{passes, term_value}
use Rattle.snap_core.specs.Inputs.{IsPacket}
use Rattle.snap_context.specs.declared.fact.Fact.{Fact}
use Rattle.snap_context.specs.Answers.{NoneMeetsWith, IsMetWith}
use Rattle.snap_context.specs.Meets.{Under, IsMet, with_fact}
use Rattle.snap_context.specs.Classes.{class_of, IsTest, IsClass, FactRule, PairRule, Says, Rules, left_of, normal}
use Rattle.snap_context.specs.Closing.{IsClosed, IsBroken, MeetsWith, RulesFor, RulesOf, AllRules}
use Rattle.snap_context.specs.View.{View, IsContext, AreFirst}
use Rattle.snap_context.proofs.Wrap.{wrap_zero}
use Rattle.snap_context.proofs.Model.{model}
use Rattle.snap_context.proofs.Answers.{Meets-with_fact, Meets-parts}

first_class : (comps : ℕ) (cl : List Term) → AreFirst comps cl → All (IsClass cl) cl
first_class comps cl h k d l =
    let lt : k < comps = rw h.0 at l in
    let e : get_or cl k d ≡ Plus k 0 = get_or_default cl k d (Plus k 0) l ∙ h.1 k lt in
    rw e (l, omega arith, h.1 k lt)

pub empty_context : (comps : ℕ) (facts : List Fact) (cl : List Term) → facts ≡ [] → comps ≤ 64 → AreFirst comps cl → IsContext (record { facts = facts; classes = cl })
empty_context comps facts cl none few h =
    subst (λ (fs : List Fact). IsContext (record { facts = fs; classes = cl })) (sym none)
    (record {
      rules = record {
        tests = All-nil (λ (f : Fact). IsTest (length cl) f.test);
        classes = first_class comps cl h;
        alone = All-nil (FactRule cl);
        paired = All-nil (λ f. All (PairRule cl f) []);
      };
      few = rw h.0 few;
      many = omega arith;
      told = λ m k p meets c l. ap (λ t. term_value t k) (h.1 c (rw h.0 at l));
    })

pub context_met : (v : View) → IsContext v → IsMet (length v.classes) v.facts
context_met v ctx = model v.facts v.classes ctx.rules ctx.few (omega (arith, ctx.many))

pub rules_of : (v : View) → IsContext v → RulesOf v.classes v.facts
rules_of v ctx = λ i d l. (ctx.rules.alone i d l, ctx.rules.paired i d l)

-- a fact never breaks the rule beside itself
PairRule-self : (cl : List Term) (f : Fact) → PairRule cl f f
PairRule-self cl f y same = subst (λ y. Says y (normal cl (left_of f.test)) (normal cl (left_of f.test))) (sym y) refl

all_rules : (cl : List Term) (facts : List Fact) (f : Fact) → All (IsClass cl) cl → All (λ g. IsTest (length cl) g.test) facts → IsTest (length cl) f.test → AllRules cl facts f → Rules (f ∷ facts) cl
all_rules cl facts f classes tests test h = record {
  tests = All-cons (λ g. IsTest (length cl) g.test) f facts test tests;
  classes = classes;
  alone = All-cons (FactRule cl) f facts h.1.0.0 (All-weaker (λ g. RulesFor cl g facts) (FactRule cl) (λ g r. r.0) facts h.0);
  paired = All-cons (λ g. All (PairRule cl g) (f ∷ facts)) f facts
      (All-cons (PairRule cl f) f facts (PairRule-self cl f) h.1.0.1)
      (λ i d l. All-cons (PairRule cl (get_or facts i d)) f facts (h.1.1 i d l) (h.0 i d l).1);
}

swapped : {A B : Type 0} → A × B → B × A
swapped h = (h.1, h.0)

module _ (v : View) (t : Test) (y : Bool) (ctx : IsContext v) where
  pub none_meets : IsBroken (MeetsWith (record { test = t; yes = y }) v.facts) v.classes → NoneMeetsWith v t y
  none_meets broken m k p meets =
      let both : MeetsWith (record { test = t; yes = y }) v.facts m k = swapped (Meets-parts v.facts t y m k meets) in
      broken m k p both (ctx.told m k p both.1)

  module _ (test : IsTest (length v.classes) t) (new : List Term) (closed : IsClosed v.facts (record { test = t; yes = y }) v.classes new) where
    more_rules : Rules (with_fact v.facts t y) new
    more_rules = all_rules new v.facts (record { test = t; yes = y }) closed.classes (rw closed.same ctx.rules.tests) (rw closed.same test) closed.rules

    pub more_met : IsMetWith v t y
    more_met =
        subst (λ n. IsMet n (with_fact v.facts t y)) closed.same
        (model (with_fact v.facts t y) new more_rules (rw closed.same ctx.few) (omega (arith, ctx.many)))

    pub more_context : length v.facts < 4294967295 → IsContext (record { facts = with_fact v.facts t y; classes = new })
    more_context room = record {
      rules = more_rules;
      few = rw closed.same ctx.few;
      many = omega (arith, room);
      told = λ m k p meets.
          let q : IsPacket (length v.classes) k = record { long = p.long ∙ closed.same; numbers = p.numbers } in
          let both : MeetsWith (record { test = t; yes = y }) v.facts m k = swapped (Meets-parts v.facts t y m k meets) in
          closed.keeps m k q both (ctx.told m k q both.1);
    }

-- where no answer is possible, the other always comes
pub never_passes : (v : View) (t : Test) → NoneMeetsWith v t true → Under (length v.classes) v.facts (λ m k. passes t m k ≡ false)
never_passes v t none m k p h = false_from_ne_true (passes t m k) (λ y. none m k p (Meets-with_fact v.facts t true m k h y))

pub always_passes : (v : View) (t : Test) → NoneMeetsWith v t false → Under (length v.classes) v.facts (λ m k. passes t m k ≡ true)
always_passes v t none m k p h = true_from_ne_false (passes t m k) (λ y. none m k p (Meets-with_fact v.facts t false m k h y))

pub class_told : (v : View) (c : ℕ) → IsContext v → c < length v.classes → Under (length v.classes) v.facts (λ m k. term_value (class_of v.classes c) k ≡ slice_index k c)
class_told v c ctx l m k p meets = ctx.told m k p meets c l ∙ wrap_zero (slice_index k c) (p.numbers c 0 (rw p.long l))

-- what was found of copies holds of the context
module _ (v : View) (facts : List Fact) (cl : List Term) (facts_are : facts ≡ v.facts) (classes_are : cl ≡ v.classes) where
  pub rules_at : IsContext v → RulesOf cl facts
  rules_at ctx = subst (λ (x : List Term). RulesOf x facts) (sym classes_are) (subst (λ (x : List Fact). RulesOf v.classes x) (sym facts_are) (rules_of v ctx))

  pub broken_at : (f g : Fact) → f ≡ g → IsBroken (MeetsWith f facts) cl → IsBroken (MeetsWith g v.facts) v.classes
  broken_at f g e h =
      subst (λ (x : Fact). IsBroken (MeetsWith x v.facts) v.classes) e
      (subst (λ (x : List Term). IsBroken (MeetsWith f v.facts) x) classes_are
      (subst (λ (x : List Fact). IsBroken (MeetsWith f x) cl) facts_are h))

  pub closed_at : (f g : Fact) (new : List Term) → f ≡ g → IsClosed facts f cl new → IsClosed v.facts g v.classes new
  closed_at f g new e h =
      subst (λ (x : Fact). IsClosed v.facts x v.classes new) e
      (subst (λ (x : List Term). IsClosed v.facts f x new) classes_are
      (subst (λ (x : List Fact). IsClosed x f cl new) facts_are h))
