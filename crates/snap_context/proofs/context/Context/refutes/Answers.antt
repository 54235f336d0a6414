-- The facts are those of the context.
use Rattle.std.proofs.Common.{◌≡◌, ap, subst, refl, ◌∙◌}
use Rattle.snap_context.specs.View.{View, IsContext}
use Rattle.snap_context.proofs.Contexts.{rules_at, broken_at, closed_at, none_meets, more_met}
use Rattle.snap_context.proofs.context.Context.refutes.Goals as goal
use Rattle.snap_context.proofs.context.Context.refutes.Goals.{After-deref-2, in-None, in-Some}

context : (c : After-deref-2) → IsContext c.args.self.now
context c = subst IsContext c.self.view_is c.self.invariant

facts : (c : After-deref-2) → c.deref-2.result.now ≡ c.args.self.now.facts
facts c = c.deref-2.ensures ∙ ap (λ (v : View). v.facts) c.self.view_is

classes : (c : After-deref-2) → c.deref.result.now ≡ c.args.self.now.classes
classes c = c.deref.ensures.value ∙ ap (λ (v : View). v.classes) c.self.view_is

pub closed-requires-clause-rules : goal.closed-requires-clause-rules
closed-requires-clause-rules c =
    let d = (goal.at.closed-requires-clause-rules c).After-deref-2 in
    rules_at c.args.self.now c.deref-2.result.now c.deref.result.now (facts d) (classes d) (context d)

pub returns : goal.returns
returns c =
    let d = (goal.at.returns c).After-deref-2 in
    elim c.match-branch-2.branch [
      | in-None w ↦
          let broken = rw w.in-None.is at c.in_ok-closed.ensures in
          rw w.result-is
          (none_meets c.args.self.now c.args.fact.now.test c.args.fact.now.yes (context d)
          (broken_at c.args.self.now c.deref-2.result.now c.deref.result.now (facts d) (classes d) c.args.fact.now c.args.fact.now refl broken))
      | in-Some w ↦
          let done = rw w.in-Some.is at c.in_ok-closed.ensures in
          rw w.result-is
          (more_met c.args.self.now c.args.fact.now.test c.args.fact.now.yes (context d) c.requires.fits w.in-Some.field-0.items
          (closed_at c.args.self.now c.deref-2.result.now c.deref.result.now (facts d) (classes d) c.args.fact.now c.args.fact.now w.in-Some.field-0.items refl done))
    ]
