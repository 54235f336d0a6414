-- The report of one big switch that takes packets in another order than that of their numbers.
use Rattle.std.specs.Prelude.{◌≡◌, ℕ, false, List, [], ◌++◌, length, slice_get, Some, IsPermutation}
use Rattle.std.specs.List.{All}
use Rattle.snap_core.specs.declared.program.Program.{Program}
use Rattle.snap_core.specs.declared.place.Entry.{Entry}
use Rattle.snap_core.specs.Arrays.{zero_arrays}
use Rattle.snap_core.specs.Listing.{IsListing}
use Rattle.snap_core.specs.Packets.{PacketSet}
use Rattle.snap_core.specs.Switch.{Switched, one_big_switch}
use Rattle.snap_topology.specs.declared.topology.Topology.{Topology}
use Rattle.snap_rows.specs.declared.tables.Tables.{Tables}
use Rattle.snap_rows.specs.Happenings.{commits}
use Rattle.snap_rows.specs.SingleOwner.{IsSingleOwner}
use Rattle.snap_rows.specs.Network.{Event, Happening, Net, Run, packets_of}
use Rattle.snap_faithful.specs.Agreement.{in_order, numbered}
use Rattle.snap_faithful.specs.Faithful.{Faithful, IsPacketOf}
use Rattle.snap_report.specs.Reports.{blocks, end_text}
use Rattle.snap_runs.specs.Plain.{entering}
use Rattle.snap_runs.specs.Reports.{IsRunReport}
use Rattle.snap_refinement.specs.OneSwitch.{IsSwitchReport, port_lines, ports_of}

-- of the sets that were made in this order, packet i's is this one: it stands where the order has i
abbrev pub IsMadeOf : (order : List ℕ) → (sets : List PacketSet) → ℕ → PacketSet → Type 0
IsMadeOf order sets i set = (j : ℕ) × (slice_get order j ≡ Some i) × (slice_get sets j ≡ Some set)

-- The report of one big switch that takes packets in this order of their numbers, from empty arrays: the set that each packet became,
-- at the packet's own number; and then the places of the arrays that aren't 0.
pub record IsSwitchReportIn (p : Program) (ports : List ℕ) (ks : List (List ℕ)) (order : List ℕ) (text : List ℕ) : Type 0 where
  pub each_once : IsPermutation order (numbered ks)
  pub made : Switched
  pub defined : one_big_switch p.body zero_arrays (in_order ks order) ≡ Some made
  pub became : List PacketSet
  pub as_many : length became ≡ length ks
  pub are : (i : ℕ) (set : PacketSet) → slice_get became i ≡ Some set → IsMadeOf order made.packets i set
  pub entries : List Entry
  pub listed : IsListing made.arrays entries
  pub is : text ≡ blocks (port_lines p.fields ports) 1 became ++ end_text p.arrays entries

-- ---- what such reports are
-- in each order there is one report at most
abbrev pub OrdersHaveOneReport : Type 0
OrdersHaveOneReport = (p : Program) (ports : List ℕ) (ks : List (List ℕ)) (order a b : List ℕ)
    → IsSwitchReportIn p ports ks order a → IsSwitchReportIn p ports ks order b → a ≡ b

-- in the order of their numbers it is the report of one big switch over the packets as they stand, and conversely
abbrev pub InOrderItIsTheReport : Type 0
InOrderItIsTheReport = (p : Program) (ports : List ℕ) (ks : List (List ℕ)) (text : List ℕ)
    → IsSwitchReportIn p ports ks (numbered ks) text → IsSwitchReport p ports ks text

abbrev pub TheReportIsInOrder : Type 0
TheReportIsInOrder = (p : Program) (ports : List ℕ) (ks : List (List ℕ)) (text : List ℕ)
    → IsSwitchReport p ports ks text → IsSwitchReportIn p ports ks (numbered ks) text

-- ---- single-owner tables
-- **Where all arrays stand at one switch, each run of faithful tables to an end reports exactly what one big switch does over
-- the packets in the order in which they fork**, whatever overlaps.
abbrev pub SingleOwnerRunsReportInForkOrder : Type 0
SingleOwnerRunsReportInForkOrder = (p : Program) (topology : Topology) (places : List ℕ) (t : Tables) → Faithful p topology places t → IsSingleOwner t
    → (ks : List (List ℕ)) → All (IsPacketOf p) ks
    → (es : List Event) (s : Net) (hs : List Happening) → packets_of es ≡ entering ks → Run t zero_arrays es s hs → s.flying ≡ []
    → (text : List ℕ) → IsRunReport t false (length ks) s hs text → IsSwitchReportIn p (ports_of topology) ks (commits hs) text
