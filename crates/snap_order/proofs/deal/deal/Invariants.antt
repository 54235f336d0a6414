use Rattle.std.proofs.Common.{length}
use Rattle.snap_order.proofs.Dealing.{DealtSo}
use Rattle.snap_order.proofs.deal.deal.Given as goal

abbrev pub invariant-loop-copy : goal.invariant-loop-copy
invariant-loop-copy l = DealtSo l.workers l.switches l.left.items l.fn.copies.items l.jobs.items

abbrev pub decreases-loop-copy : goal.decreases-loop-copy
decreases-loop-copy l = length l.left.items
