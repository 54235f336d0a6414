-- The switches of ports, and the order of links.
use Rattle.std.specs.Prelude.{ℕ, ◌==◌, Option, Some, None, List, [], ◌∷◌, if◌then◌else◌}
use Rattle.std.specs.Ordering.{nat_cmp, ordering_then}
use Rattle.std.specs.declared.cmp.Ordering.{Ordering}
use Rattle.snap_core.specs.declared.ports.PortAt.{PortAt}

-- the switch at which a port is
abbrev pub port_in : List PortAt → ℕ → Option ℕ
port_in [] p = None
port_in (q ∷ qs) p = if q.port == p then Some q.at else port_in qs p

-- links by the first number, then by the second
abbrev pub link_cmp : ℕ × ℕ → ℕ × ℕ → Ordering
link_cmp a b = ordering_then (nat_cmp a.0 b.0) (nat_cmp a.1 b.1)
