-- The classes tell what the facts do.
use Rattle.std.proofs.Common.{subst, ap, ◌∙◌}
use Rattle.snap_core.specs.declared.policy.Term.{Term}
use Rattle.snap_core.specs.Tests.{term_value}
use Rattle.snap_context.specs.Classes.{class_of}
use Rattle.snap_context.specs.View.{View, IsContext}
use Rattle.snap_context.proofs.Contexts.{class_told}
use Rattle.snap_context.proofs.context.Context.class.Goals as goal

pub returns-clause-told : goal.returns-clause-told
returns-clause-told c m k p meets =
    ap (λ (t : Term). term_value t k) (c.class_at.ensures ∙ ap (λ x. class_of x c.args.comp) (c.deref.ensures.value ∙ ap (λ (v : View). v.classes) c.self.view_is)) ∙
    class_told c.args.self.now c.args.comp (subst IsContext c.self.view_is c.self.invariant) c.requires m k p meets
