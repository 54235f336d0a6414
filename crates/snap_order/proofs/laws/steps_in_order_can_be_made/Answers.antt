use Rattle.snap_order.proofs.Going.{runs_in_order_can_end, some_copy_goes_on, steps_in_order}
use Rattle.snap_order.proofs.laws.steps_in_order_can_be_made.Goals as goal

pub returns : goal.returns
returns c = record { each = steps_in_order; some = some_copy_goes_on; ends = runs_in_order_can_end }
