use Rattle.std.proofs.Common.{◌≡◌, ◌<◌, take, length}
use Rattle.snap_net.specs.Flights.{joined}
use Rattle.snap_net.proofs.flights.spot_from_back.Given as goal

-- so many copies stand in the blocks that are left, and copy k is one of them
abbrev pub invariant-loop-i : goal.invariant-loop-i
invariant-loop-i l = record {
  before : length (joined (take l.i l.blocks)) ≡ l.before;
  behind : l.k < l.before;
}
