use Rattle.std.proofs.Common.{length}
use Rattle.snap_net.specs.Moves.{copies_in_flight, HasPut}
use Rattle.snap_net.proofs.moves.put_copies.Given as goal

abbrev pub invariant-loop-sent : goal.invariant-loop-sent
invariant-loop-sent l = HasPut l.initial.flying l.flying l.k (copies_in_flight l.number l.at l.initial.left.items) (copies_in_flight l.number l.at l.left.items)

abbrev pub decreases-loop-sent : goal.decreases-loop-sent
decreases-loop-sent l = length l.left.items
