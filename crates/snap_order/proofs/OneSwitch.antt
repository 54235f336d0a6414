-- Runs in order of faithful tables of version 2 report what one big switch does.
use Rattle.std.proofs.Common.{◌≡◌, ℕ, false, List, length, sym, ap, is_some, subst, ◌∙◌}
use Rattle.std.specs.List.{All}
use Rattle.snap_core.specs.declared.program.Program.{Program}
use Rattle.snap_core.specs.Arrays.{zero_arrays}
use Rattle.snap_rows.specs.declared.tables.Tables.{Tables}
use Rattle.snap_rows.specs.Network.{Net, Event, Inject, Happening, packets_of}
use Rattle.snap_rows.specs.Progress.{CanBeInjected}
use Rattle.snap_rows.proofs.Runs.{sequential-run}
use Rattle.snap_faithful.specs.Agreement.{Agrees, numbered}
use Rattle.snap_faithful.specs.Faithful.{IsPacketOf, AllCanEnter}
use Rattle.snap_faithful.specs.Faithful as faithful
use Rattle.snap_report.specs.Reports.{block, blocks}
use Rattle.snap_runs.specs.Reports as plain
use Rattle.snap_runs.proofs.SequentialSchedule.{keeps_order as spelled_in_order}
use Rattle.snap_order.specs.Ordered.{Ordered, LeadsInOrder, RunsInOrder, OrderedHappening, happenings, injects}
use Rattle.snap_order.specs.Reports.{IsBlock, IsRunReport}
use Rattle.snap_order.proofs.Keeping.{keeps_order}
use Rattle.snap_order.specs.OneSwitch.{PlainRunsInOrderReportOneSwitch, RunsByRoundsReportOneSwitch, RunsInOrderReportOneSwitch, SchedulesInOrderReportOneSwitch}
use Rattle.snap_refinement.proofs.Entered.{IsOfProgram, all-enter, entering-fits, entering-packets, no_numbers}
use Rattle.snap_refinement.proofs.InOrder.{agrees_report}
use Rattle.snap_order.proofs.Rounds.{by_rounds_runs}

-- a packet comes in at a port
enters_at : (t : Tables) (s s' : Ordered) (port : ℕ) (k : List ℕ) (us : List OrderedHappening) → LeadsInOrder t s (Inject port k) s' us → CanBeInjected t (port, k)
enters_at t s s' port k us (injects own names) = record { port = ap is_some own; first = names }

pub all_enter : (t : Tables) (p : Program) {s s' : Ordered} {es : List Event} {us : List OrderedHappening} → All (IsOfProgram p) (packets_of es) → RunsInOrder t s es s' us → AllCanEnter p t (packets_of es)
all_enter t p packets run = all-enter (LeadsInOrder t) t (enters_at t) p packets run

-- without hops the report is that of the network's happenings
plain_block : (t : Tables) (i : ℕ) (hs : List Happening) (text : List ℕ) → IsBlock t false i hs text → plain.IsBlock t false i hs text
plain_block t i hs text b = record { outs = b.outs; rising = b.rising; delivered = b.delivered; is = b.is }

plain_report : (t : Tables) (count : ℕ) (s : Net) (hs : List Happening) (text : List ℕ) → IsRunReport t false count s hs text → plain.IsRunReport t false count s hs text
plain_report t count s hs text r = record {
  blocks = r.blocks;
  are = record { each = r.are.each; as_many = r.are.as_many; blocks = λ i block is. plain_block t i hs block (r.are.blocks i block is); is = r.are.is };
  entries = r.entries;
  listed = r.listed;
  is = r.is;
}

pub turns_report : RunsInOrderReportOneSwitch
turns_report p topology places t f version ks packets es s us enter run none text report =
    let fits = subst (All (λ (e : ℕ × List ℕ). IsPacketOf p e.1)) (sym enter) (entering-fits p ks packets) in
    let agrees = (keeps_order p topology places t f version).ended zero_arrays es s us (record { store = no_numbers p; packets = all_enter t p fits run; run = run }) none in
    let same : faithful.packets_in (packets_of es) ≡ ks = ap faithful.packets_in enter ∙ entering-packets ks in
    agrees_report p topology places t f ks s.net (happenings us) (subst (λ l. Agrees p t zero_arrays l (numbered l) s.net (happenings us)) same agrees) text
    (plain_report t (length ks) s.net (happenings us) text report)

pub plain_turns_report : PlainRunsInOrderReportOneSwitch
plain_turns_report p topology places t f version ks packets text r = turns_report p topology places t f version ks packets r.events r.end r.turns r.run.packets (sequential-run r.run.run) r.run.ended text r.report

pub schedule_turns_report : SchedulesInOrderReportOneSwitch
schedule_turns_report p topology places t f version ks packets lines text r =
    turns_report p topology places t f version ks packets r.obeys.events r.state r.turns (spelled_in_order lines ks r.obeys.events r.obeys.spells) r.obeys.run r.ended text r.report

pub rounds_report : RunsByRoundsReportOneSwitch
rounds_report p topology places t f version ks packets text r =
    let run = by_rounds_runs t r.run in
    turns_report p topology places t f version ks packets r.events r.end r.turns run.1 run.0 run.2 text r.report
