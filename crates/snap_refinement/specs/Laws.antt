-- Runs of faithful tables report what one big switch does.
use Rattle.std.specs.Prelude.{◌≡◌, ℕ, ◌+◌, ◌≤◌, false, List, [], length}
use Rattle.std.specs.List.{All}
use Rattle.snap_core.specs.declared.program.Program.{Program}
use Rattle.snap_core.specs.Arrays.{zero_arrays}
use Rattle.snap_dep.specs.Ranks.{IsRank}
use Rattle.snap_topology.specs.declared.topology.Topology.{Topology}
use Rattle.snap_topology.specs.Walks.{IsDiameter, Linked}
use Rattle.snap_rows.specs.declared.tables.Tables.{Tables}
use Rattle.snap_rows.specs.Network.{Crossed, Delivered, Event, Forked, Happening, IsPlainRun, Net, Run, RunsSequentially, packets_of, start}
use Rattle.snap_faithful.specs.Faithful.{Faithful, IsPacketOf, most_hops}
use Rattle.snap_runs.specs.Plain.{entering, IsPlainReport}
use Rattle.snap_runs.specs.Reports.{IsRunReport}
use Rattle.snap_refinement.specs.OneSwitch.{IsSwitchReport, ports_of}

-- **Each run of faithful tables to an end, in which each packet comes in when no other is on its way, reports exactly what
-- one big switch does.**
abbrev pub SequentialRunsReportOneSwitch : Type 0
SequentialRunsReportOneSwitch = (p : Program) (topology : Topology) (places : List ℕ) (t : Tables) → Faithful p topology places t
    → (ks : List (List ℕ)) → All (IsPacketOf p) ks
    → (es : List Event) (s : Net) (hs : List Happening) → packets_of es ≡ entering ks
    → RunsSequentially t (start t zero_arrays) es s hs → s.flying ≡ []
    → (text : List ℕ) → IsRunReport t false (length ks) s hs text → IsSwitchReport p (ports_of topology) ks text

-- so does the plain run
abbrev pub PlainRunsReportOneSwitch : Type 0
PlainRunsReportOneSwitch = (p : Program) (topology : Topology) (places : List ℕ) (t : Tables) → Faithful p topology places t
    → (ks : List (List ℕ)) → All (IsPacketOf p) ks → (text : List ℕ)
    → IsPlainReport t false ks text → IsSwitchReport p (ports_of topology) ks text

-- a copy that crosses a link has made at most so many hops with it, and one that is delivered or forks has made no more
abbrev pub IsHopWithin : (most : ℕ) → Happening → Type 0
IsHopWithin most (Crossed c to head) = c.hops + 1 ≤ most
IsHopWithin most (Delivered c port) = c.hops ≤ most
IsHopWithin most (Forked c copies lost) = c.hops ≤ most

-- **Each copy makes few hops, whatever the order of the events**: at most (groups + 1) times the diameter over tables of
-- version 2, and (2 groups + 1)
-- times over those of version 1
abbrev pub RunsAreShort : Type 0
RunsAreShort = (p : Program) (topology : Topology) (places : List ℕ) (t : Tables) → Faithful p topology places t
    → (order : List ℕ) (d : ℕ) → IsRank p.body (length p.arrays) order → IsDiameter (Linked topology.links) (length topology.switches) d
    → (ks : List (List ℕ)) → All (IsPacketOf p) ks
    → (es : List Event) (s : Net) (hs : List Happening) → packets_of es ≡ entering ks → Run t zero_arrays es s hs
    → All (IsHopWithin (most_hops t.version (length order) d)) hs

-- so it does in the plain run
abbrev pub PlainRunsAreShort : Type 0
PlainRunsAreShort = (p : Program) (topology : Topology) (places : List ℕ) (t : Tables) → Faithful p topology places t
    → (order : List ℕ) (d : ℕ) → IsRank p.body (length p.arrays) order → IsDiameter (Linked topology.links) (length topology.switches) d
    → (ks : List (List ℕ)) → All (IsPacketOf p) ks
    → (es : List Event) (s : Net) (hs : List Happening) → IsPlainRun t zero_arrays (entering ks) es s hs
    → All (IsHopWithin (most_hops t.version (length order) d)) hs
