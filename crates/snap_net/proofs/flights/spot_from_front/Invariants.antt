use Rattle.std.proofs.Common.{◌≡◌, ◌+◌, take, length}
use Rattle.snap_net.specs.Flights.{joined}
use Rattle.snap_net.proofs.flights.spot_from_front.Given as goal

abbrev pub invariant-loop-i : goal.invariant-loop-i
invariant-loop-i l = length (joined (take l.i l.blocks)) + l.place ≡ l.k
