-- The report of one big switch, as it is seen at ports.
use Rattle.std.specs.Prelude.{◌≡◌, ℕ, Some, List, ◌++◌, map}
use Rattle.snap_core.specs.declared.ports.PortAt.{PortAt}
use Rattle.snap_core.specs.declared.program.Field.{Field}
use Rattle.snap_core.specs.declared.program.Program.{Program}
use Rattle.snap_core.specs.declared.place.Entry.{Entry}
use Rattle.snap_core.specs.Arrays.{zero_arrays}
use Rattle.snap_core.specs.Listing.{IsListing}
use Rattle.snap_core.specs.Packets.{PacketSet}
use Rattle.snap_core.specs.Switch.{Switched, one_big_switch, delivered, lost}
use Rattle.snap_topology.specs.declared.topology.Topology.{Topology}
use Rattle.snap_report.specs.Reports.{blocks, end_text, out_lines, lost_line}

-- the numbers of a topology's ports
abbrev pub ports_of : Topology → List ℕ
ports_of topology = map (λ (x : PortAt). x.port) topology.ports

-- a set of packets at these ports: those that go to one of them, in rising order, and the number of the others
abbrev pub port_lines : List Field → (ports : List ℕ) → PacketSet → List ℕ
port_lines fields ports set = out_lines fields (delivered ports set) ++ lost_line (lost ports set)

-- The report of one big switch over packets, from empty arrays: the set that each packet became, and then the places of the
-- arrays that aren't 0.
pub record IsSwitchReport (p : Program) (ports : List ℕ) (ks : List (List ℕ)) (text : List ℕ) : Type 0 where
  pub made : Switched
  pub defined : one_big_switch p.body zero_arrays ks ≡ Some made
  pub entries : List Entry
  pub listed : IsListing made.arrays entries
  pub is : text ≡ blocks (port_lines p.fields ports) 1 made.packets ++ end_text p.arrays entries
