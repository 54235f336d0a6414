-- The copy is of the classes.
use Rattle.std.proofs.Common.{List, subst, sym, ◌∙◌}
use Rattle.snap_core.specs.declared.policy.Term.{Term}
use Rattle.snap_context.specs.Closing.{RulesOf}
use Rattle.snap_context.proofs.close.closed.Goals as goal

pub close-requires-clause-rules : goal.close-requires-clause-rules
close-requires-clause-rules c =
    subst (λ (cl : List Term). RulesOf cl c.args.facts.now) (sym (c.as_mut_slice.ensures.value ∙ c.in_ok-new.ensures.items)) c.requires.rules
