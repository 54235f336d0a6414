-- When a pair of switches is told as unreachable. Want of memory may be told at any time.
use Rattle.std.specs.Prelude.{ℕ}
use Rattle.snap_topology.specs.declared.table.RouteFault.{RouteFault}
use Rattle.snap_topology.specs.declared.table.RouteFault.TheVariants.{Unreachable, NoMemory}

-- the pair that is told has P
abbrev pub IsCause : (ℕ → ℕ → Type 0) → RouteFault → Type 0
IsCause P (Unreachable a b) = P a b
IsCause P NoMemory = Unit {0}
