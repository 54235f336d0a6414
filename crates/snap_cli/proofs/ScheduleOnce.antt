-- A schedule's run over a packets file ends in one way, with one text.
use Rattle.std.proofs.Common.{◌≡◌, ◌⊎◌, ℕ, Bool, List, Err, sym, ◌∙◌, ap, subst, inl, inr, arith}
use Rattle.snap_runs.specs.Laws.{RefusedLinesAreOne, ReportedOrRefused, ScheduleReportsAreOne}
use Rattle.snap_runs.specs.Schedules.{AreBothRead, IsReadWhole}
use Rattle.snap_cli.specs.declared.refusal.Refusal.TheVariants.{Schedule}
use Rattle.snap_cli.specs.Schedule.{SchedulesTo, StopsAtLength, StopsAtLine, StopsAtPackets}
use Rattle.snap_cli.proofs.Shared.{ended, Ending, EndsBySchedule, HasScheduleReport, IsWellFormed, IsRunEnding, lines_of, refused, RefusesScheduleLine, spelled_for, Tables, TraceFault}
use Rattle.snap_cli.proofs.ObsOnce.{AreOne, run_ends_once}
use Rattle.snap_cli.proofs.Pipeline.{cases_once}

-- the files have one report, or one line that is refused, and not both
pub record IsOne (t : Tables) (file text : List ℕ) (Reports : List ℕ → Type 0) (Refuses : ℕ → Type 0) : Type 0 where
  pub whole : (report : List ℕ) → Reports report → AreBothRead t file text
  pub read : (line : ℕ) → Refuses line → AreBothRead t file text
  pub report : (a b : List ℕ) → Reports a → Reports b → a ≡ b
  pub line : (a b : ℕ) → Refuses a → Refuses b → a ≡ b
  pub apart : (report : List ℕ) (line : ℕ) → Reports report → Refuses line → ⊥

-- a packets file is read to its end or refused, once
module _ (t : Tables) (file : List ℕ) where
  pub whole_or_not : (fault : TraceFault) → (spelled_for t file).stop ≡ refused fault → IsReadWhole t file → ⊥
  whole_or_not fault stops whole = let apart : refused fault ≡ ended = sym stops ∙ whole in cc

  pub packets_once : (a b : Ending) → StopsAtPackets t file a → StopsAtPackets t file b → a ≡ b
  packets_once a b h k =
      let same : h.0 ≡ k.0 = (let e : refused h.0 ≡ refused k.0 = sym h.1 ∙ k.1 in cc) in
      run_ends_once (Err k.0) a b (subst (λ fault. IsRunEnding (Err fault) a) same h.2) k.2

module _ (t : Tables) (file text : List ℕ) (Reports : List ℕ → Type 0) (Refuses : ℕ → Type 0) (one : IsOne t file text Reports Refuses) where
  abbrev Refused : Ending → Type 0
  Refused e = StopsAtPackets t file e ⊎ (StopsAtLength t file text e ⊎ StopsAtLine Refuses e)

  rest_read : (e : Ending) → StopsAtLength t file text e ⊎ StopsAtLine Refuses e → IsReadWhole t file
  rest_read e (inl h) = h.0
  rest_read e (inr h) = (one.read h.0 h.1).0

  refused_once : (a b : Ending) → Refused a → Refused b → a ≡ b
  refused_once a b =
      cases_once (packets_once t file a b) (λ h k. whole_or_not t file h.0 h.1 (rest_read b k)) (λ h k. whole_or_not t file h.0 h.1 (rest_read a k))
      (cases_once (λ h k. h.2 ∙ sym k.2) (λ h k. omega (arith, h.1, (one.read k.0 k.1).1)) (λ h k. omega (arith, h.1, (one.read k.0 k.1).1))
      (λ h k. h.2 ∙ (ap (λ line. Err (Schedule line)) (one.line h.0 k.0 h.1 k.1) ∙ sym k.2)))

  reported_apart : (report : List ℕ) (e : Ending) → Reports report → Refused e → ⊥
  reported_apart report e h (inl k) = whole_or_not t file k.0 k.1 (one.whole report h).0
  reported_apart report e h (inr (inl k)) = let long = k.1 in let few = (one.whole report h).1 in omega (arith, long, few)
  reported_apart report e h (inr (inr k)) = one.apart report k.0 h k.1

  pub ends_by_schedule_once : AreOne (EndsBySchedule t file text Reports Refuses)
  ends_by_schedule_once a b e f =
      cases_once (λ h k. (h.0 ∙ sym k.0, one.report a b h.1 k.1)) (λ h k. reported_apart a f h.1 k.1) (λ h k. reported_apart b e h.1 k.1) (λ h k. (refused_once e f h.1 k.1, h.0 ∙ sym k.0))

-- of a run without turns
module _ (t : Tables) (form : IsWellFormed t) (hops : Bool) (file text : List ℕ) (reports : ScheduleReportsAreOne) (lines : RefusedLinesAreOne) (apart : ReportedOrRefused) where
  schedule_is_one : IsOne t file text (HasScheduleReport t hops file text) (RefusesScheduleLine t file text)
  schedule_is_one = record {
    whole = λ report h. h.0;
    read = λ line h. h.0;
    report = λ a b h k. reports t form hops (spelled_for t file).packets (lines_of text) a b h.1 k.1;
    line = λ a b h k. lines t form (spelled_for t file).packets (lines_of text) a b h.1 k.1;
    apart = λ report line h k. apart t form hops (spelled_for t file).packets (lines_of text) report line h.1 k.1;
  }

  pub schedules_once : AreOne (SchedulesTo t hops file text)
  schedules_once = ends_by_schedule_once t file text (HasScheduleReport t hops file text) (RefusesScheduleLine t file text) schedule_is_one
