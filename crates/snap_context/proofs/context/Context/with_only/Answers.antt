-- The facts that stay, and the classes of the context.
use Rattle.std.proofs.Common.{◌≡◌, ap, subst, sym, ◌∙◌, List}
use Rattle.snap_core.specs.declared.policy.Term.{Term}
use Rattle.snap_context.specs.declared.fact.Fact.{Fact}
use Rattle.snap_context.specs.View.{View, IsContext}
use Rattle.snap_context.proofs.Lean.{lean_context}
use Rattle.snap_context.proofs.context.Context.with_only.Goals as goal

pub invariant_of-result : goal.invariant_of-result
invariant_of-result c =
    let ctx : IsContext c.args.self.now = subst IsContext c.self.view_is c.self.invariant in
    let classes : c.in_ok-classes.classes.items ≡ c.args.self.now.classes = c.in_ok-classes.ensures.items ∙ (c.deref.ensures.value ∙ ap (λ (v : View). v.classes) c.self.view_is) in
    let all : IsContext (record { facts = c.args.stay.items; classes = c.args.self.now.classes }) = lean_context c.args.self.now c.args.stay.items c.requires.0 ctx c.requires.1 in
    subst (λ (fs : List Fact). IsContext (record { facts = fs; classes = c.in_ok-classes.classes.items })) (sym c.in_ok-facts.ensures)
    (subst (λ (cl : List Term). IsContext (record { facts = c.args.stay.items; classes = cl })) (sym classes) all)
