-- Copies of runs in order of faithful tables of version 2 make few hops.
use Rattle.std.specs.Prelude.{◌≡◌, ℕ, ◌+◌, ◌*◌, List, length}
use Rattle.std.specs.List.{All}
use Rattle.snap_core.specs.declared.program.Program.{Program}
use Rattle.snap_core.specs.Arrays.{zero_arrays}
use Rattle.snap_dep.specs.Ranks.{IsRank}
use Rattle.snap_topology.specs.declared.topology.Topology.{Topology}
use Rattle.snap_topology.specs.Walks.{IsDiameter, Linked}
use Rattle.snap_rows.specs.declared.tables.Tables.{Tables}
use Rattle.snap_rows.specs.Network.{Event, packets_of}
use Rattle.snap_faithful.specs.Faithful.{Faithful, IsPacketOf}
use Rattle.snap_runs.specs.Plain.{entering}
use Rattle.snap_order.specs.Ordered.{Ordered, OrderedRun, OrderedHappening, happenings}
use Rattle.snap_order.specs.Runs.{IsPlainRun}
use Rattle.snap_refinement.specs.Laws.{IsHopWithin}

-- **Each copy of a run in order makes at most (groups + 1) times the diameter hops**, whatever the order of the events
abbrev pub RunsInOrderAreShort : Type 0
RunsInOrderAreShort = (p : Program) (topology : Topology) (places : List ℕ) (t : Tables) → Faithful p topology places t → t.version ≡ 2
    → (order : List ℕ) (d : ℕ) → IsRank p.body (length p.arrays) order → IsDiameter (Linked topology.links) (length topology.switches) d
    → (ks : List (List ℕ)) → All (IsPacketOf p) ks
    → (es : List Event) (s : Ordered) (us : List OrderedHappening) → packets_of es ≡ entering ks → OrderedRun t zero_arrays es s us
    → All (IsHopWithin ((length order + 1) * d)) (happenings us)

-- so it does in the plain run in order
abbrev pub PlainRunsInOrderAreShort : Type 0
PlainRunsInOrderAreShort = (p : Program) (topology : Topology) (places : List ℕ) (t : Tables) → Faithful p topology places t → t.version ≡ 2
    → (order : List ℕ) (d : ℕ) → IsRank p.body (length p.arrays) order → IsDiameter (Linked topology.links) (length topology.switches) d
    → (ks : List (List ℕ)) → All (IsPacketOf p) ks
    → (es : List Event) (s : Ordered) (us : List OrderedHappening) → IsPlainRun t zero_arrays (entering ks) es s us
    → All (IsHopWithin ((length order + 1) * d)) (happenings us)
