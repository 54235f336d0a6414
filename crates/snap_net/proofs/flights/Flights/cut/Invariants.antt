use Rattle.std.proofs.Common.{◌≡◌, []}
use Rattle.snap_net.specs.Flights.{spliced}
use Rattle.snap_net.proofs.flights.Flights.cut.Given as goal

abbrev pub invariant-loop-i : goal.invariant-loop-i
invariant-loop-i l = l.self ≡ spliced l.initial.self l.from l.i []
