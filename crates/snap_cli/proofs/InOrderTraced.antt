-- A run in order that ended with status 0 has a report, which is that of the plain run.
use Rattle.std.proofs.Common.{◌≡◌, ℕ, Bool, false, List, [], ◌++◌, Option, Some, None, Ok, refl, sym, ◌∙◌, ap, subst, inl, inr}
use Rattle.snap_core.specs.Listing.{IsListing}
use Rattle.snap_report.specs.Reports.{blocks, end_text}
use Rattle.snap_runs.specs.Plain as plain_run
use Rattle.snap_order.specs.OneSwitch.{PlainRunsInOrderReportOneSwitch, SchedulesInOrderReportOneSwitch}
use Rattle.snap_order.specs.Runs.{EndsAsRead, HasScheduleReport, IsPlainReport, IsScheduleReport, RefusesScheduleLine}
use Rattle.snap_refinement.specs.Laws.{PlainRunsReportOneSwitch}
use Rattle.snap_refinement.specs.OneSwitch.{IsSwitchReport, port_lines}
use Rattle.snap_cli.specs.Headline.{TurnsTraceAsPlain}
use Rattle.snap_cli.specs.InOrder.{RunsInOrderTo, TurnsTo}
use Rattle.snap_cli.specs.Laws.{TurnsExactly}
use Rattle.snap_cli.proofs.Shared.{All, AnswersExactly, CompilesExactly, Did, ended, Ending, Faithful, file_of, Files, HasOneListing, in_order, IsPacketOf, IsRunEnding, lines_of, option_map, ports_of, Program, refused, RunEnding, spelled, spelled_for, SpelledForIsSpelled, SpelledPacketsFit, status_of, Stop, Switched, Tables, TablesOf, Topology, trace, TracesExactly, VersionOne}
use Rattle.snap_cli.proofs.ScheduleTraced.{reported_by}
use Rattle.snap_cli.proofs.Traced.{no_failure, plain_ran, refused_apart, run_apart, told}

-- the report of the run in order of packets: one after the other, or in the order of a schedule
abbrev pub IsTurnsReport : Tables → (hops : Bool) → (schedule : Option (List ℕ)) → List (List ℕ) → List ℕ → Type 0
IsTurnsReport t hops None ks report = IsPlainReport t hops ks report
IsTurnsReport t hops (Some schedule) ks report = IsScheduleReport t hops ks (lines_of schedule) report

-- a run that ended with status 0 has one
module _ (t : Tables) (hops : Bool) (file : List ℕ) (ending : Ending) (well : 0 ≡ status_of ending) where
  abbrev Reported : Option (List ℕ) → List ℕ → Type 0
  Reported schedule text = ((spelled_for t file).stop ≡ ended) × IsTurnsReport t hops schedule (spelled_for t file).packets text

  by_stop : (ks : List (List ℕ)) (stop : Stop) (run : RunEnding) (text : List ℕ) → EndsAsRead t hops ks stop run text → IsRunEnding run ending → (stop ≡ ended) × IsPlainReport t hops ks text
  by_stop ks ended run text h is = (refl, h.1)
  by_stop ks (refused fault) run text h is = absurd (run_apart fault ending (subst (λ r. IsRunEnding r ending) h.0 is) well)

  turns_reported : (schedule : Option (List ℕ)) (text : List ℕ) → TurnsTo t hops file schedule ending text → Reported schedule text
  turns_reported None text h = let read = spelled_for t file in by_stop read.packets read.stop h.0 text h.1 h.2
  turns_reported (Some schedule) text h =
      let r = reported_by t file schedule (HasScheduleReport t hops file schedule) (RefusesScheduleLine t file schedule) ending text h well in
      (r.0.0, r.1)

  in_order_reported : (files : Files) (packets : List ℕ) (lines : Option (List ℕ)) (text : List ℕ) → file_of files packets ≡ file → RunsInOrderTo files t packets hops lines ending text → (t.version ≡ 2) × Reported (option_map (file_of files) lines) text
  in_order_reported files packets lines text is (inl h) = absurd (refused_apart VersionOne (well ∙ ap status_of h.1))
  in_order_reported files packets lines text is (inr h) = (h.0, turns_reported (option_map (file_of files) lines) text (subst (λ f. TurnsTo t hops f (option_map (file_of files) lines) ending text) is h.1))

-- one big switch has one report
pub switch_report_once : HasOneListing → (p : Program) (ports : List ℕ) (ks : List (List ℕ)) (a b : List ℕ) → IsSwitchReport p ports ks a → IsSwitchReport p ports ks b → a ≡ b
switch_report_once lists p ports ks a b h k =
    let same : h.made ≡ k.made = (let e : Some h.made ≡ Some k.made = sym h.defined ∙ k.defined in cc) in
    let entries = lists k.made.arrays h.entries k.entries (subst (λ (m : Switched). IsListing m.arrays h.entries) same h.listed) k.listed in
    h.is ∙ (λ i. blocks (port_lines p.fields ports) 1 (same i).packets ++ end_text p.arrays (entries i)) ∙ sym k.is

pub in_order_ran : TurnsExactly → (later : Files) (tables packets : List ℕ) (lines : Option (List ℕ)) (hops : Bool) (report : List ℕ) → Did later (trace tables packets hops (in_order lines)) report → (t : Tables) → TablesOf (file_of later tables) (Ok t)
    → ((spelled_for t (file_of later packets)).stop ≡ ended) × ((t.version ≡ 2) × IsTurnsReport t hops (option_map (file_of later) lines) (spelled_for t (file_of later packets)).packets report)
in_order_ran turns later tables packets lines hops report d t read =
    let r = no_failure (turns d.0 later tables packets lines hops t 0 d.2.shelf_before d.2.shelf_now d.2.out_before d.2.out_now (Some []) (Some report) d.2.err_before d.2.err_now d.2.err_old d.2.err_new d.1 read d.2.answers) in
    let ran = in_order_reported t hops (file_of later packets) r.0 r.3.status_is later packets lines r.1 refl r.2 in
    (ran.1.0, (ran.0, subst (IsTurnsReport t hops (option_map (file_of later) lines) (spelled_for t (file_of later packets)).packets) (sym r.3.out) ran.1.1))

-- it is what one big switch does
module _ (each : PlainRunsInOrderReportOneSwitch) (lined : SchedulesInOrderReportOneSwitch) where
  turns_one_switch : (p : Program) (topology : Topology) (places : List ℕ) (n : Tables) → Faithful p topology places n → n.version ≡ 2 → (ks : List (List ℕ)) → All (IsPacketOf p) ks → (schedule : Option (List ℕ)) (report : List ℕ)
      → IsTurnsReport n false schedule ks report → IsSwitchReport p (ports_of topology) ks report
  turns_one_switch p topology places n faithful two ks fits None report r = each p topology places n faithful two ks fits report r
  turns_one_switch p topology places n faithful two ks fits (Some schedule) report r = lined p topology places n faithful two ks fits (lines_of schedule) report r

  pub turns_as_plain : AnswersExactly → CompilesExactly → TurnsExactly → SpelledPacketsFit → SpelledForIsSpelled → TracesExactly → PlainRunsReportOneSwitch → HasOneListing → TurnsTraceAsPlain
  turns_as_plain exactly compiles turns fit whole traces alone lists files later program topology placement tables packets on_demand lines output report other c is d e =
      let x = told exactly compiles fit whole (λ n ks. ((n.version ≡ 2) × IsTurnsReport n false (option_map (file_of later) lines) ks report) × plain_run.IsPlainReport n false ks other)
      files later program topology placement tables packets on_demand false (in_order lines) output report c is d
      (λ t read. let ran = in_order_ran turns later tables packets lines false report d t read in (ran.0, (ran.1, (plain_ran traces later tables packets false other e t read).1))) in
      let ks = (spelled x.p.fields (file_of later packets)).packets in
      switch_report_once lists x.p (ports_of x.t) ks report other
      (turns_one_switch x.p x.t x.places x.n x.faithful x.holds.0.0 ks x.fits (option_map (file_of later) lines) report x.holds.0.1)
      (alone x.p x.t x.places x.n x.faithful ks x.fits other x.holds.1)
