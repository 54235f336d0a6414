-- The run in order that a schedule's lines tell is one.
use Rattle.std.proofs.Common.{◌≡◌, ℕ, List, [], length, sym, subst}
use Rattle.snap_core.specs.Arrays.{zero_arrays}
use Rattle.snap_rows.specs.declared.tables.Tables.{Tables}
use Rattle.snap_rows.specs.Form.{IsWellFormed}
use Rattle.snap_runs.specs.declared.frames.Frames.TheVariants.{Numbered}
use Rattle.snap_runs.specs.Plain.{spelled_for}
use Rattle.snap_runs.specs.Schedules.{lines_of}
use Rattle.snap_runs.proofs.OneReport.{reports_one}
use Rattle.snap_runs.proofs.OneSchedule.{ended-or-refused, obeys-one, refused-one, refused-told}
use Rattle.snap_order.specs.OneSchedule.{RefusedLinesAreOne, RefusedLinesAreTold, ReportedOrRefused, ScheduleReportsAreOne}
use Rattle.snap_order.specs.Ordered.{LeadsInOrder, Ordered, OrderedHappening, begin, happenings}
use Rattle.snap_order.specs.Reports.{IsRunReport}
use Rattle.snap_order.specs.Runs.{IsScheduleReport, Obeys, RefusesLine}
use Rattle.snap_order.proofs.OneRun.{leads_one, steps_copies}

pub refused_lines_one : RefusedLinesAreOne
refused_lines_one t form = refused-one (λ (o : Ordered). o.net) (LeadsInOrder t) (begin t zero_arrays) (leads_one t form) (steps_copies t)

pub ended_or_refused : (t : Tables) → IsWellFormed t → (ks lines : List (List ℕ)) (s : Ordered) (us : List OrderedHappening) → Obeys t ks lines [] s us → s.net.flying ≡ [] → (number : ℕ) → RefusesLine t ks lines number → ⊥
ended_or_refused t form = ended-or-refused (λ (o : Ordered). o.net) (LeadsInOrder t) (begin t zero_arrays) (leads_one t form) (steps_copies t)

pub reported_or_refused : ReportedOrRefused
reported_or_refused t form hops ks lines text number x y = ended_or_refused t form ks lines x.state x.turns x.obeys x.ended number y

pub schedule_reports_one : ScheduleReportsAreOne
schedule_reports_one t form hops ks lines a b x y =
    let same = obeys-one (λ (o : Ordered). o.net) (LeadsInOrder t) (begin t zero_arrays) (leads_one t form) (steps_copies t) ks lines [] [] x.state y.state x.turns y.turns x.obeys y.obeys in
    reports_one Numbered t hops (length ks) x.state.net (happenings x.turns) a b x.report
    (subst (λ us. IsRunReport t hops (length ks) x.state.net (happenings us) b) (sym same.2) (subst (λ (s : Ordered). IsRunReport t hops (length ks) s.net (happenings y.turns) b) (sym same.1) y.report))

pub refused_lines_told : RefusedLinesAreTold
refused_lines_told t form hops file schedule =
    let ks = (spelled_for t file).packets in
    let lines = lines_of schedule in
    refused-told (IsScheduleReport t hops ks lines) (RefusesLine t ks lines) (refused_lines_one t form ks lines) (λ text x number y. reported_or_refused t form hops ks lines text number x y) t file schedule
