-- A run by rounds that ended with status 0 has a report, which is that of the plain run, for every number of workers.
use Rattle.std.proofs.Common.{◌≡◌, ℕ, Bool, false, List, [], Some, Ok, sym, ◌∙◌, ap, subst, inl, inr}
use Rattle.snap_runs.specs.Plain as plain_run
use Rattle.snap_order.specs.OneSwitch.{RunsByRoundsReportOneSwitch}
use Rattle.snap_order.specs.Rounds.{HasRoundReport, IsRoundReport}
use Rattle.snap_refinement.specs.Laws.{PlainRunsReportOneSwitch}
use Rattle.snap_cli.specs.Headline.{RoundsTraceAlike, RoundsTraceAsPlain}
use Rattle.snap_cli.specs.Laws.{RoundsExactly}
use Rattle.snap_cli.specs.Rounds.{RunsByRoundsTo}
use Rattle.snap_cli.proofs.Shared.{AnswersExactly, CompilesExactly, Did, ended, Ending, file_of, Files, HasOneListing, ports_of, rounds, RoundsTo, spelled, spelled_for, SpelledForIsSpelled, SpelledPacketsFit, status_of, Tables, TablesOf, trace, TracesExactly, VersionOne}
use Rattle.snap_cli.proofs.InOrderTraced.{switch_report_once}
use Rattle.snap_cli.proofs.TraceOnce.{same_text}
use Rattle.snap_cli.proofs.Traced.{no_failure, plain_ran, refused_apart, run_apart, told}

-- a run that ended with status 0 has a report
rounds_reported : (t : Tables) (hops : Bool) (file : List ℕ) (ending : Ending) (text : List ℕ) → 0 ≡ status_of ending → RoundsTo t hops file ending text → HasRoundReport t hops file text
rounds_reported t hops file ending text well (inl h) = h.1
rounds_reported t hops file ending text well (inr h) = absurd (run_apart h.1.0 ending h.1.2 well)

by_rounds_reported : (files : Files) (t : Tables) (packets : List ℕ) (hops : Bool) (ending : Ending) (text : List ℕ) → 0 ≡ status_of ending → RunsByRoundsTo files t packets hops ending text → (t.version ≡ 2) × HasRoundReport t hops (file_of files packets) text
by_rounds_reported files t packets hops ending text well (inl h) = absurd (refused_apart VersionOne (well ∙ ap status_of h.1))
by_rounds_reported files t packets hops ending text well (inr h) = (h.0, rounds_reported t hops (file_of files packets) ending text well h.1)

pub rounds_ran : RoundsExactly → (later : Files) (tables packets : List ℕ) (workers : ℕ) (hops : Bool) (report : List ℕ) → Did later (trace tables packets hops (rounds workers)) report → (t : Tables) → TablesOf (file_of later tables) (Ok t)
    → ((spelled_for t (file_of later packets)).stop ≡ ended) × ((t.version ≡ 2) × IsRoundReport t hops (spelled_for t (file_of later packets)).packets report)
rounds_ran by_rounds later tables packets workers hops report d t read =
    let r = no_failure (by_rounds d.0 later tables packets workers hops t 0 d.2.shelf_before d.2.shelf_now d.2.out_before d.2.out_now (Some []) (Some report) d.2.err_before d.2.err_now d.2.err_old d.2.err_new d.1 read d.2.answers) in
    let ran = by_rounds_reported later t packets hops r.0 r.1 r.3.status_is r.2 in
    let has = subst (HasRoundReport t hops (file_of later packets)) (sym r.3.out) ran.1 in
    (has.0, (ran.0, has.1))

-- it is that of the plain run
pub rounds_as_plain : AnswersExactly → CompilesExactly → RoundsExactly → SpelledPacketsFit → SpelledForIsSpelled → RunsByRoundsReportOneSwitch → TracesExactly → PlainRunsReportOneSwitch → HasOneListing → RoundsTraceAsPlain
rounds_as_plain exactly compiles by_rounds fit whole one traces alone lists files later program topology placement tables packets on_demand workers output report other c is d e =
    let x = told exactly compiles fit whole (λ n ks. ((n.version ≡ 2) × IsRoundReport n false ks report) × plain_run.IsPlainReport n false ks other)
    files later program topology placement tables packets on_demand false (rounds workers) output report c is d
    (λ t read. let r = rounds_ran by_rounds later tables packets workers false report d t read in (r.0, (r.1, (plain_ran traces later tables packets false other e t read).1))) in
    let ks = (spelled x.p.fields (file_of later packets)).packets in
    switch_report_once lists x.p (ports_of x.t) ks report other
    (one x.p x.t x.places x.n x.faithful x.holds.0.0 ks x.fits report x.holds.0.1)
    (alone x.p x.t x.places x.n x.faithful ks x.fits other x.holds.1)

-- no number of workers stands in what is due
pub rounds_alike : AnswersExactly → RoundsTraceAlike
rounds_alike exactly later tables packets hops workers others report other d e =
    let r = no_failure (exactly d.0 later (trace tables packets hops (rounds workers)) 0 d.2.shelf_before d.2.shelf_now d.2.out_before d.2.out_now (Some []) (Some report) d.2.err_before d.2.err_now d.2.err_old d.2.err_new d.1 d.2.answers) in
    let s = no_failure (exactly e.0 later (trace tables packets hops (rounds others)) 0 e.2.shelf_before e.2.shelf_now e.2.out_before e.2.out_now (Some []) (Some other) e.2.err_before e.2.err_now e.2.err_old e.2.err_new e.1 e.2.answers) in
    r.3.out ∙ same_text later tables packets hops (rounds others) r.1 s.1 (s.2.no_other_text r.1 r.2.has_text) ∙ sym s.3.out
