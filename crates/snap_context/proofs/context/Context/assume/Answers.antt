-- The facts are those of the context, with the new one.
use Rattle.std.proofs.Common.{rules, ◌≡◌, ◌<◌, ◌∷◌, List, length, ap, subst, sym, ◌∙◌, arith}
use Rattle.snap_core.specs.declared.policy.Test.{Test}
use Rattle.snap_context.specs.declared.fact.Fact.{Fact}
use Rattle.snap_context.specs.Classes.{IsTest}
use Rattle.snap_context.specs.Closing.{IsClosed}
use Rattle.snap_context.specs.Meets.{with_fact}
use Rattle.snap_context.specs.View.{View, IsContext}
use Rattle.snap_context.proofs.Contexts.{rules_at, broken_at, closed_at, none_meets, more_met, more_context}
use Rattle.snap_context.proofs.Fitting.{is_test}
use Rattle.snap_context.proofs.context.Context.assume.Goals as goal
use Rattle.snap_context.proofs.context.Context.assume.Goals.{After-deref-3, In_ok-facts-in-Some}

context : (c : After-deref-3) → IsContext c.args.self.now
context c = subst IsContext c.self.view_is c.self.invariant

facts : (c : After-deref-3) → c.deref-3.result.now ≡ c.args.self.now.facts
facts c = c.deref-3.ensures ∙ ap (λ (v : View). v.facts) c.self.view_is

classes : (c : After-deref-3) → c.deref-2.result.now ≡ c.args.self.now.classes
classes c = c.deref-2.ensures.value ∙ ap (λ (v : View). v.classes) c.self.view_is

pub closed-requires-clause-rules : goal.closed-requires-clause-rules
closed-requires-clause-rules c =
    let d = (goal.at.closed-requires-clause-rules c).After-deref-3 in
    rules_at c.args.self.now c.deref-3.result.now c.deref-2.result.now (facts d) (classes d) (context d)

test : (c : After-deref-3) → IsTest (length c.args.self.now.classes) c.args.test.now
test c = is_test (length c.args.self.now.classes) c.args.test.now c.requires.fits c.requires.short c.know_test.ensures

same_fact : (c : After-deref-3) → (let f : Fact = record { test = c.in_ok-copy_of.field-0; yes = c.args.yes } in f ≡ record { test = c.args.test.now; yes = c.args.yes })
same_fact c = ap (λ (t : Test). let f : Fact = record { test = t; yes = c.args.yes } in f) c.in_ok-copy_of.ensures

pub returns-in-None : goal.returns-in-None
returns-in-None c =
    let d = (goal.at.returns-in-None c).After-deref-3 in
    let broken = rw c.in-None.is at c.in_ok-closed.ensures in
    none_meets c.args.self.now c.args.test.now c.args.yes (context d)
    (broken_at c.args.self.now c.deref-3.result.now c.deref-2.result.now (facts d) (classes d) _ _ (same_fact d) broken)

-- the facts so made
all_facts : (c : In_ok-facts-in-Some) → c.in_ok-facts-in-Some.facts.value ≡ with_fact c.args.self.now.facts c.args.test.now c.args.yes
all_facts c =
    let same : c.in_ok-clone-in-Some.field-0.value ≡ c.self.inside.facts.value = search rules in
    c.in_ok-facts-in-Some.ensures
    ∙ (c.with.ensures
    ∙ (ap (λ (fs : List Fact). let f : Fact = record { test = c.in_ok-copy_of.field-0; yes = c.args.yes } in f ∷ fs) (same ∙ ap (λ (v : View). v.facts) c.self.view_is)
    ∙ ap (λ (t : Test). with_fact c.args.self.now.facts t c.args.yes) c.in_ok-copy_of.ensures))

done : (c : In_ok-facts-in-Some) → IsClosed c.args.self.now.facts (record { test = c.args.test.now; yes = c.args.yes }) c.args.self.now.classes c.in-Some.classes.items
done c =
    let d = (goal.at.invariant_of-result c).After-deref-3 in
    let found = rw c.in-Some.is at c.in_ok-closed.ensures in
    closed_at c.args.self.now c.deref-3.result.now c.deref-2.result.now (facts d) (classes d) _ _ c.in-Some.classes.items (same_fact d) found

room : (c : In_ok-facts-in-Some) → length c.args.self.now.facts < 4294967295
room c =
    let long : c.len.result ≡ length c.self.inside.facts.value = c.len.ensures ∙ ap length c.deref.ensures in
    let few : length c.self.inside.facts.value < 4294967295 = omega (arith, long, c.if-len-ge-MOST_FACTS.false) in
    subst (λ (v : View). length v.facts < 4294967295) c.self.view_is few

pub invariant_of-result : goal.invariant_of-result
invariant_of-result c =
    let d = (goal.at.invariant_of-result c).After-deref-3 in
    subst (λ (fs : List Fact). IsContext (record { facts = fs; classes = c.in-Some.classes.items })) (sym (all_facts c))
    (more_context c.args.self.now c.args.test.now c.args.yes (context d) (test d) c.in-Some.classes.items (done c) (room c))

pub returns-in_ok-facts-in-Some : goal.returns-in_ok-facts-in-Some
returns-in_ok-facts-in-Some c =
    let d = (goal.at.invariant_of-result c).After-deref-3 in (
      all_facts c,
      (done c).same,
      more_met c.args.self.now c.args.test.now c.args.yes (context d) (test d) c.in-Some.classes.items (done c),
    )
