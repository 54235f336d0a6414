-- The topology of n switches in a row, and where the arrays stand.
use Rattle.std.specs.Prelude.{ℕ, ◌+◌, ◌-◌, ◌/◌, List, [], ◌∷◌, ◌++◌, map, codes, decimal}
use Rattle.std.specs.List.{range_with_len}
use Rattle.snap_core.specs.declared.ports.PortAt.{PortAt}
use Rattle.snap_topology.specs.declared.topology.Topology.{Topology}

-- switches n0, n1 and so on, a link between each and the next, and port i + 1 at switch i
abbrev pub switch_name : ℕ → List ℕ
switch_name i = codes "n" ++ decimal i

abbrev pub link_of : ℕ → ℕ × ℕ
link_of i = (i, i + 1)

abbrev pub port_of : ℕ → PortAt
port_of i = record { port = i + 1; at = i }

abbrev pub switches : ℕ → List (List ℕ)
switches n = map switch_name (range_with_len 0 n)

abbrev pub links : ℕ → List (ℕ × ℕ)
links n = map link_of (range_with_len 0 (n - 1))

abbrev pub ports : ℕ → List PortAt
ports n = map port_of (range_with_len 0 n)

abbrev pub stated_topology : ℕ → Topology
stated_topology n = record { switches = switches n; links = links n; ports = ports n }

-- `seen` stands in the middle, `count` at the first switch
abbrev pub stated_places : ℕ → List ℕ
stated_places n = n / 2 ∷ 0 ∷ []
