use Rattle.snap_refinement.proofs.InOrder.{in_order_is, is_in_order, one_report}
use Rattle.snap_refinement.proofs.laws.orders_have_one_report.Goals as goal

pub returns : goal.returns
returns c = record { one = one_report c.has_one_listing.ensures; in_order = in_order_is; is_in_order = is_in_order }
