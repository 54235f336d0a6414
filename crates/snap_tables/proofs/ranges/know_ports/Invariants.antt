use Rattle.std.proofs.Common.{◌<◌, ◌^◌, take}
use Rattle.std.specs.List.{All}
use Rattle.snap_core.specs.declared.ports.PortAt.{PortAt}
use Rattle.snap_tables.proofs.ranges.know_ports.Given as goal

abbrev pub invariant-loop-port : goal.invariant-loop-port
invariant-loop-port l = All (λ (p : PortAt). p.port < 2 ^ 32) (take l.port-index l.ports)
