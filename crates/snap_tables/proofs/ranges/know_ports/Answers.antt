use Rattle.std.proofs.Common.{◌<◌, ◌^◌, List, subst}
use Rattle.std.specs.List.{All}
use Rattle.std.proofs.lemmas.List.{take_all}
use Rattle.std.proofs.lemmas.List.Elements.{All-more}
use Rattle.snap_core.specs.declared.ports.PortAt.{PortAt}
use Rattle.snap_tables.proofs.ranges.know_ports.Goals as goal

pub loop-port-preserved : goal.loop-port-preserved
loop-port-preserved c = All-more (λ (p : PortAt). p.port < 2 ^ 32) c.args.ports.now c.loop-port.port-index (record { port = 0; at = 0 }) c.loop-port-test.true c.loop-port.invariant c.know_port.ensures

pub returns : goal.returns
returns c = subst (λ (ps : List PortAt). All (λ (p : PortAt). p.port < 2 ^ 32) ps) (take_all c.loop-port.port-index c.args.ports.now c.loop-port-test.false) c.loop-port.invariant
