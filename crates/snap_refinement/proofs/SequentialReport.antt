-- Sequential runs of faithful tables report what one big switch does.
use Rattle.std.proofs.Common.{◌≡◌, ℕ, false, List, [], length, sym, ap, subst, ◌∙◌}
use Rattle.std.specs.List.{All}
use Rattle.snap_core.specs.declared.program.Program.{Program}
use Rattle.snap_core.specs.Arrays.{zero_arrays}
use Rattle.snap_topology.specs.declared.topology.Topology.{Topology}
use Rattle.snap_rows.specs.declared.tables.Tables.{Tables}
use Rattle.snap_rows.specs.Network.{Event, Happening, Net, RunsSequentially, packets_of, start}
use Rattle.snap_rows.proofs.Runs.{sequential-run}
use Rattle.snap_faithful.specs.Agreement.{Agrees, numbered}
use Rattle.snap_faithful.specs.Faithful.{Faithful, IsPacketOf, packets_in}
use Rattle.snap_runs.specs.Plain.{entering, IsPlainReport}
use Rattle.snap_runs.specs.Reports.{IsRunReport}
use Rattle.snap_refinement.specs.OneSwitch.{IsSwitchReport, ports_of}
use Rattle.snap_refinement.proofs.Entered.{no_numbers, entering-packets, entering-fits, all_enter}
use Rattle.snap_refinement.proofs.InOrder.{agrees_report}

-- a sequential run of packets of the program agrees with one big switch
pub sequential_agrees : (p : Program) (topology : Topology) (places : List ℕ) (t : Tables) → Faithful p topology places t → (ks : List (List ℕ)) → All (IsPacketOf p) ks
    → (es : List Event) (s : Net) (hs : List Happening) → packets_of es ≡ entering ks → RunsSequentially t (start t zero_arrays) es s hs → s.flying ≡ []
    → Agrees p t zero_arrays ks (numbered ks) s hs
sequential_agrees p topology places t faithful ks packets es s hs enter run none =
    let fits = subst (All (λ (e : ℕ × List ℕ). IsPacketOf p e.1)) (sym enter) (entering-fits p ks packets) in
    let agrees = faithful.sequential_runs zero_arrays es s hs (no_numbers p) (all_enter t p fits (sequential-run run)) run none in
    let same : packets_in (packets_of es) ≡ ks = ap packets_in enter ∙ entering-packets ks in
    subst (λ l. Agrees p t zero_arrays l (numbered l) s hs) same agrees

pub sequential_report : (p : Program) (topology : Topology) (places : List ℕ) (t : Tables) → Faithful p topology places t → (ks : List (List ℕ)) → All (IsPacketOf p) ks
    → (es : List Event) (s : Net) (hs : List Happening) → packets_of es ≡ entering ks → RunsSequentially t (start t zero_arrays) es s hs → s.flying ≡ []
    → (text : List ℕ) → IsRunReport t false (length ks) s hs text → IsSwitchReport p (ports_of topology) ks text
sequential_report p topology places t faithful ks packets es s hs enter run none text report =
    agrees_report p topology places t faithful ks s hs (sequential_agrees p topology places t faithful ks packets es s hs enter run none) text report

pub plain_report : (p : Program) (topology : Topology) (places : List ℕ) (t : Tables) → Faithful p topology places t → (ks : List (List ℕ)) → All (IsPacketOf p) ks
    → (text : List ℕ) → IsPlainReport t false ks text → IsSwitchReport p (ports_of topology) ks text
plain_report p topology places t faithful ks packets text r = sequential_report p topology places t faithful ks packets r.events r.end r.happenings r.run.packets r.run.run r.run.ended text r.report
