-- The ports so far.
use Rattle.std.proofs.Common.{◌≡◌, ℕ, drop}
use Rattle.std.specs.Prelude.{nat_eq, ◌||◌}
use Rattle.std.specs.List.{list_any}
use Rattle.snap_core.specs.declared.ports.PortAt.{PortAt}
use Rattle.snap_make.specs.Marks.{has_switch}
use Rattle.snap_make.proofs.demands.at_ports.Given as goal

abbrev pub invariant-loop-port : goal.invariant-loop-port
invariant-loop-port l = (v : ℕ) → list_any (λ (p : PortAt). nat_eq v p.at) l.ports ≡ (has_switch l.marks v || list_any (λ (p : PortAt). nat_eq v p.at) (drop l.port-index l.ports))
