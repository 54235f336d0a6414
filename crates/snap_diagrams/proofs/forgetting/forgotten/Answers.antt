-- What the plan says of its marks.
use Rattle.std.proofs.Common.{List, Option, subst, sym}
use Rattle.snap_context.specs.declared.tested.Tested.{Tested}
use Rattle.snap_diagrams.specs.Tested.{AreTested}
use Rattle.snap_diagrams.proofs.forgetting.forgotten.Goals as goal

pub mark_at-requires : goal.mark_at-requires
mark_at-requires c =
    subst (λ (marks : List (Option Tested)). AreTested c.args.nodes.now c.args.plan.now.reached.ids.items marks) (sym c.deref.ensures.value) c.requires.plan.tested
