-- What is left decides.
use Rattle.std.proofs.Common.{◌≡◌, drop}
use Rattle.std.specs.Prelude.{◌==◌}
use Rattle.std.specs.List.{list_any}
use Rattle.snap_core.specs.declared.ports.PortAt.{PortAt}
use Rattle.snap_make.proofs.sites.has_port.Given as goal

abbrev pub invariant-loop-port : goal.invariant-loop-port
invariant-loop-port l = list_any (λ (p : PortAt). p.at == l.at) (drop l.port-index l.ports) ≡ list_any (λ (p : PortAt). p.at == l.fn.at) l.fn.ports
