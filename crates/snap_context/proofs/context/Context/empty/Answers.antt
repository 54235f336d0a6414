-- No facts, and each component its own root.
use Rattle.std.proofs.Common.{◌∙◌}
use Rattle.snap_context.proofs.Contexts.{empty_context}
use Rattle.snap_context.proofs.context.Context.empty.Goals as goal

pub invariant_of-result : goal.invariant_of-result
invariant_of-result c = empty_context c.args.comps c.in_ok-facts.facts.value c.in_ok-classes.classes.items (c.in_ok-facts.ensures ∙ c.none.ensures) c.requires c.in_ok-classes.ensures
