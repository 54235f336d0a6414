use Rattle.snap_order.specs.Dealing.{AreExchanged}
use Rattle.snap_order.proofs.deal.exchange.Given as goal

abbrev pub invariant-loop-at : goal.invariant-loop-at
invariant-loop-at l = AreExchanged l.workers l.at l.fn.stores.items l.fn.jobs.items l.stores.items l.jobs.items
