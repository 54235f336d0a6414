use Rattle.std.proofs.Common.{◌≡◌, ◌++◌, length}
use Rattle.snap_net.specs.Moves.{copies_in_flight}
use Rattle.snap_order.proofs.hand.forked.Given as goal

abbrev pub invariant-loop-sent : goal.invariant-loop-sent
invariant-loop-sent l = l.left.items ++ copies_in_flight l.number l.at l.rest.items ≡ copies_in_flight l.number l.at l.fn.copies.items

abbrev pub decreases-loop-sent : goal.decreases-loop-sent
decreases-loop-sent l = length l.rest.items
