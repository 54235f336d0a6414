use Rattle.std.proofs.Common.{◌≡◌, drop}
use Rattle.snap_placement.specs.DemandAnswer.{no_port}
use Rattle.snap_placement.proofs.demand_resolve.known_ports.Given as goal

abbrev pub invariant-loop-flow : goal.invariant-loop-flow
invariant-loop-flow l = no_port l.ports (drop l.flow-index l.flows) ≡ no_port l.ports l.flows
