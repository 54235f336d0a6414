-- Runs in order of faithful tables of version 2 report what one big switch does, whatever overlaps.
use Rattle.std.specs.Prelude.{◌≡◌, ℕ, false, List, [], length}
use Rattle.std.specs.List.{All}
use Rattle.snap_core.specs.declared.program.Program.{Program}
use Rattle.snap_core.specs.Arrays.{zero_arrays}
use Rattle.snap_topology.specs.declared.topology.Topology.{Topology}
use Rattle.snap_rows.specs.declared.tables.Tables.{Tables}
use Rattle.snap_rows.specs.Network.{Event, packets_of}
use Rattle.snap_faithful.specs.Faithful.{Faithful, IsPacketOf}
use Rattle.snap_runs.specs.Plain.{entering}
use Rattle.snap_order.specs.Ordered.{Ordered, OrderedRun, OrderedHappening, happenings}
use Rattle.snap_order.specs.Reports.{IsRunReport}
use Rattle.snap_order.specs.Rounds.{IsRoundReport}
use Rattle.snap_order.specs.Runs.{IsPlainReport, IsScheduleReport}
use Rattle.snap_refinement.specs.OneSwitch.{IsSwitchReport, ports_of}

-- **Each run in order of faithful tables of version 2 to an end reports exactly what one big switch does over the packets in the order of
-- their injection**, whatever the order of the events.
abbrev pub RunsInOrderReportOneSwitch : Type 0
RunsInOrderReportOneSwitch = (p : Program) (topology : Topology) (places : List ℕ) (t : Tables)
    → Faithful p topology places t → t.version ≡ 2
    → (ks : List (List ℕ)) → All (IsPacketOf p) ks
    → (es : List Event) (s : Ordered) (us : List OrderedHappening) → packets_of es ≡ entering ks → OrderedRun t zero_arrays es s us → s.net.flying ≡ []
    → (text : List ℕ) → IsRunReport t false (length ks) s.net (happenings us) text → IsSwitchReport p (ports_of topology) ks text

-- so does the plain run in order
abbrev pub PlainRunsInOrderReportOneSwitch : Type 0
PlainRunsInOrderReportOneSwitch = (p : Program) (topology : Topology) (places : List ℕ) (t : Tables)
    → Faithful p topology places t → t.version ≡ 2
    → (ks : List (List ℕ)) → All (IsPacketOf p) ks → (text : List ℕ)
    → IsPlainReport t false ks text → IsSwitchReport p (ports_of topology) ks text

-- and each schedule that is done to its end
abbrev pub SchedulesInOrderReportOneSwitch : Type 0
SchedulesInOrderReportOneSwitch = (p : Program) (topology : Topology) (places : List ℕ) (t : Tables)
    → Faithful p topology places t → t.version ≡ 2
    → (ks : List (List ℕ)) → All (IsPacketOf p) ks → (lines : List (List ℕ)) (text : List ℕ)
    → IsScheduleReport t false ks lines text → IsSwitchReport p (ports_of topology) ks text

-- and the run by rounds
abbrev pub RunsByRoundsReportOneSwitch : Type 0
RunsByRoundsReportOneSwitch = (p : Program) (topology : Topology) (places : List ℕ) (t : Tables)
    → Faithful p topology places t → t.version ≡ 2
    → (ks : List (List ℕ)) → All (IsPacketOf p) ks → (text : List ℕ)
    → IsRoundReport t false ks text → IsSwitchReport p (ports_of topology) ks text
