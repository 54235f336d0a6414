-- When a topology is in form.
use Rattle.std.specs.Prelude.{ℕ, ◌<◌, ◌≤◌, length, map, All, IsTrue}
use Rattle.std.specs.Ordering.{nat_cmp}
use Rattle.std.specs.List.{IsDistinct}
use Rattle.std.specs.List.Sorted.{IsStrictlySortedBy}
use Rattle.std.specs.Str.{bytes_eq}
use Rattle.snap_core.specs.declared.ports.PortAt.{PortAt}
use Rattle.snap_topology.specs.declared.topology.Topology.{Topology}
use Rattle.snap_topology.specs.declared.topology.TheConstants.{MOST_SWITCHES, MOST_LINKS, MOST_PORTS}
use Rattle.snap_core.specs.Ports.{link_cmp}
use Rattle.snap_core.specs.Names.{is_switch_name}

-- a link between two of n switches, the lesser first
pub record IsLink (n : ℕ) (link : ℕ × ℕ) : Type 0 where
  pub lesser : link.0 < link.1
  pub below : link.1 < n

-- a port at one of n switches
pub record IsPort (n : ℕ) (p : PortAt) : Type 0 where
  pub some : 1 ≤ p.port
  pub below : p.at < n

pub record IsWellFormed (t : Topology) : Type 0 where
  pub some : 1 ≤ length t.switches
  pub switches : length t.switches ≤ MOST_SWITCHES
  pub names : All (λ name. IsTrue (is_switch_name name)) t.switches
  pub different : IsDistinct bytes_eq t.switches
  pub links : All (IsLink (length t.switches)) t.links
  pub links_rise : IsStrictlySortedBy link_cmp t.links
  pub few_links : length t.links ≤ MOST_LINKS
  pub ports : All (IsPort (length t.switches)) t.ports
  pub ports_rise : IsStrictlySortedBy nat_cmp (map (λ (p : PortAt). p.port) t.ports)
  pub few_ports : length t.ports ≤ MOST_PORTS
