-- What the plan says of its marks.
use Rattle.std.proofs.Common.{Bool, List, Option, subst, sym}
use Rattle.snap_context.specs.declared.tested.Tested.{Tested}
use Rattle.snap_diagrams.specs.Places.{ArePlaced}
use Rattle.snap_diagrams.specs.Tested.{AreTested}
use Rattle.snap_diagrams.proofs.pruning.is_live.Goals as goal

pub stays_free-requires-clause-placed : goal.stays_free-requires-clause-placed
stays_free-requires-clause-placed c =
    subst (λ (marks : List Bool). ArePlaced c.args.plan.now.spelling c.args.nodes.now c.args.plan.now.reached.ids.items marks) (sym c.deref-else-stays.ensures.value) c.requires.plan.placed

pub stays_free-requires-clause-tested : goal.stays_free-requires-clause-tested
stays_free-requires-clause-tested c =
    subst (λ (marks : List (Option Tested)). AreTested c.args.nodes.now c.args.plan.now.reached.ids.items marks) (sym c.deref-else-stays-2.ensures.value) c.requires.plan.tested
