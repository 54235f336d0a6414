-- A schedule's run that ended with status 0 has a report.
use Rattle.std.proofs.Common.{◌≡◌, ℕ, Bool, List, [], Some, Ok, sym, ◌∙◌, ap, subst, inl, inr}
use Rattle.snap_runs.specs.Schedules.{IsScheduleReport}
use Rattle.snap_cli.specs.declared.refusal.Refusal.TheVariants.{Schedule}
use Rattle.snap_core.specs.declared.program.Which.TheVariants.{Bytes}
use Rattle.snap_cli.specs.Laws.{SchedulesExactly}
use Rattle.snap_cli.proofs.Shared.{Did, ended, Ending, EndsBySchedule, file_of, Files, HasScheduleReport, Limit, lines_of, RefusesScheduleLine, schedule, spelled_for, status_of, Tables, TablesOf, trace}
use Rattle.snap_cli.proofs.Traced.{no_failure, refused_apart, run_apart}

pub reported_by : (t : Tables) (file lines : List ℕ) (Reports : List ℕ → Type 0) (Refuses : ℕ → Type 0) (ending : Ending) (text : List ℕ) → EndsBySchedule t file lines Reports Refuses ending text → 0 ≡ status_of ending → Reports text
reported_by t file lines Reports Refuses ending text (inl h) well = h.1
reported_by t file lines Reports Refuses ending text (inr (none, inl h)) well = absurd (run_apart h.0 ending h.2 well)
reported_by t file lines Reports Refuses ending text (inr (none, inr (inl h))) well = absurd (refused_apart (Limit Bytes 67108865) (well ∙ ap status_of h.2))
reported_by t file lines Reports Refuses ending text (inr (none, inr (inr h))) well = absurd (refused_apart (Schedule h.0) (well ∙ ap status_of h.2))

pub scheduled : SchedulesExactly → (later : Files) (tables packets lines : List ℕ) (hops : Bool) (report : List ℕ) → Did later (trace tables packets hops (schedule lines)) report → (t : Tables) → TablesOf (file_of later tables) (Ok t)
    → ((spelled_for t (file_of later packets)).stop ≡ ended) × IsScheduleReport t hops (spelled_for t (file_of later packets)).packets (lines_of (file_of later lines)) report
scheduled schedules later tables packets lines hops report d t read =
    let r = no_failure (schedules d.0 later tables packets lines hops t 0 d.2.shelf_before d.2.shelf_now d.2.out_before d.2.out_now (Some []) (Some report) d.2.err_before d.2.err_now d.2.err_old d.2.err_new d.1 read d.2.answers) in
    let file = file_of later packets in
    let got = reported_by t file (file_of later lines) (HasScheduleReport t hops file (file_of later lines)) (RefusesScheduleLine t file (file_of later lines)) r.0 r.1 r.2 r.3.status_is in
    (got.0.0, subst (IsScheduleReport t hops (spelled_for t file).packets (lines_of (file_of later lines))) (sym r.3.out) got.1)
