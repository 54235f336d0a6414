use Rattle.std.proofs.Common.{◌≡◌, ◌++◌, length}
use Rattle.snap_net.proofs.flights.Flights.from_copies.Given as goal

abbrev pub invariant-loop-copy : goal.invariant-loop-copy
invariant-loop-copy l = l.flights ++ l.rest.items ≡ l.fn.copies.items

abbrev pub decreases-loop-copy : goal.decreases-loop-copy
decreases-loop-copy l = length l.rest.items
