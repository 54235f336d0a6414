-- The root is named by the component.
use Rattle.std.proofs.Common.{◌∙◌, List, sym, subst}
use Rattle.snap_core.specs.declared.policy.Term.{Term}
use Rattle.snap_context.specs.Known.{AreRenamed}
use Rattle.snap_context.proofs.Renaming.{renamed-put}
use Rattle.snap_context.proofs.named.rename.Goals as goal

pub returns-then-not-is_in : goal.returns-then-not-is_in
returns-then-not-is_in c =
    subst (λ (new : List Term). AreRenamed c.args.classes.now new) (sym c.put_root.ensures)
    (renamed-put c.args.classes.now c.args.comp c.in-Plus.root c.in-Plus.plus c.requires (λ e. c.if-root-comp.true (sym e)) (sym c.class_at.ensures ∙ c.in-Plus.is))
