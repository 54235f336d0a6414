use Rattle.std.proofs.Common.{◌≡◌, ◌++◌, length}
use Rattle.snap_net.specs.Flights.{joined}
use Rattle.snap_net.proofs.flights.Flights.into_copies.Given as goal

abbrev pub invariant-loop-block : goal.invariant-loop-block
invariant-loop-block l = l.copies.items ++ joined l.rest.items ≡ l.fn.self

abbrev pub decreases-loop-block : goal.decreases-loop-block
decreases-loop-block l = length l.rest.items
