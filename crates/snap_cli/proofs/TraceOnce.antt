-- A run of tables ends in one way, with one text.
use Rattle.std.proofs.Common.{◌≡◌, ◌⊎◌, ℕ, Bool, List, Option, Ok, Err, refl, sym, ◌∙◌, ap, subst, inl, inr}
use Rattle.snap_tables.specs.Exact.{ReadsOneWay}
use Rattle.snap_runs.specs.Laws.{PlainBlocksAreOne, PlainReportsAreOne, RefusedLinesAreOne, ReportedOrRefused, ScheduleReportsAreOne}
use Rattle.snap_runs.specs.Plain.{ArePlainBlocks, EndsAsRead, IsTrace}
use Rattle.snap_order.specs.OneRounds.{RoundReportsAreOne}
use Rattle.snap_refinement.specs.ChangeLaws.{ChangedBlocksAreOne, ChangedReportsAreOne}
use Rattle.snap_cli.specs.Laws.{IsSameText, TracesAs}
use Rattle.snap_cli.specs.Trace.{IsRunText, NetworkRunsTo}
use Rattle.snap_cli.proofs.Shared.{Appends, changes, ended, Ending, file_of, Files, in_order, IsDue, IsExact, IsFailure, IsWellFormed, IsPlainReport, IsRunEnding, Order, plain, refused, rounds, RunEnding, schedule, Spelled, spelled_for, status_of, Stop, Tables, TablesOf, trace}
use Rattle.snap_cli.proofs.ChangesOnce.{changes_once, changes_text_once}
use Rattle.snap_cli.proofs.InOrderOnce.{TurnsAreOne, in_order_once, in_order_text, in_order_text_once, read_once}
use Rattle.snap_cli.proofs.ObsOnce.{AreOne, run_once}
use Rattle.snap_cli.proofs.OneTables.{one_tables}
use Rattle.snap_cli.proofs.Pipeline.{Agree, past}
use Rattle.snap_cli.proofs.RoundsOnce.{by_rounds_once}
use Rattle.snap_cli.proofs.ScheduleOnce.{schedules_once}

-- what is known of texts of tables and of their runs
pub record RunsAreOne : Type 0 where
  pub read : ReadsOneWay
  pub reports : PlainReportsAreOne
  pub blocks : PlainBlocksAreOne
  pub schedules : ScheduleReportsAreOne
  pub lines : RefusedLinesAreOne
  pub apart : ReportedOrRefused
  pub changed : ChangedReportsAreOne
  pub parts : ChangedBlocksAreOne
  pub turns : TurnsAreOne
  pub by_rounds : RoundReportsAreOne

module _ (one : RunsAreOne) (files : Files) (t : Tables) (form : IsWellFormed t) (packets : List ℕ) (hops : Bool) where
  traced_once : AreOne (IsTrace t hops (file_of files packets))
  traced_once =
      let read = spelled_for t (file_of files packets) in
      read_once (ArePlainBlocks t hops) (IsPlainReport t hops) read.packets (one.blocks t form hops read.packets) (one.reports t form hops read.packets) read.stop

  -- a run of tables ends in one way, with one text
  pub network_once : (order : Order) → AreOne (NetworkRunsTo files t packets hops order)
  network_once plain = run_once (IsTrace t hops (file_of files packets)) traced_once
  network_once (schedule name) = schedules_once t form hops (file_of files packets) (file_of files name) one.schedules one.lines one.apart
  network_once (changes name) = changes_once one.read one.changed one.parts files t form packets hops name
  network_once (in_order lines) = in_order_once one.turns files t form packets hops lines
  network_once (rounds workers) = by_rounds_once one.by_rounds t form hops files packets

  pub run_text_once : (order : Order) → Agree ◌≡◌ (IsRunText files t packets hops order) (IsRunText files t packets hops order)
  run_text_once plain = λ a b h k. (traced_once a b h.0 k.0 h.1 k.1).1
  run_text_once (schedule name) = λ a b h k. (network_once (schedule name) a b h.0 k.0 h.1 k.1).1
  run_text_once (changes name) = changes_text_once one.read one.changed one.parts files t form packets hops name
  run_text_once (in_order lines) = in_order_text_once one.turns files t form packets hops lines
  run_text_once (rounds workers) = λ a b h k. (network_once (rounds workers) a b h.0 k.0 h.1 k.1).1

-- ---- what a call did that answers what is due

traces_as : (t : Tables) (hops : Bool) (read : Spelled) (stop : Stop) → read.stop ≡ stop → (run : RunEnding) (ending : Ending) (text : List ℕ) (status : ℕ) (old new : Option (List ℕ))
    → EndsAsRead t hops read.packets stop run text → IsRunEnding run ending → status ≡ status_of ending → Appends old new text → TracesAs t hops read status old new
traces_as t hops read ended is run ending text status old new h k s out = inl (s ∙ ap status_of (subst (λ r. IsRunEnding r ending) h.0 k), is, (text, h.1, out))
traces_as t hops read (refused fault) is run ending text status old new h k s out = inr (fault, ending, is, subst (λ r. IsRunEnding r ending) h.0 k, s, (text, h.1, out))

pub same_text : (files : Files) (tables packets : List ℕ) (hops : Bool) (order : Order) (a b : List ℕ) → IsSameText files (trace tables packets hops order) a b → a ≡ b
same_text files tables packets hops order a b (inl e) = e
same_text files tables packets hops order a b (inr other) = absurd other

module _ (one : ReadsOneWay) (files : Files) (tables packets : List ℕ) (hops : Bool) (t : Tables) (spelled : TablesOf (file_of files tables) (Ok t)) where
  -- the text of a run
  text_of : (order : Order) (e : Ending) (x : List ℕ) → NetworkRunsTo files t packets hops order e x → IsRunText files t packets hops order x
  text_of plain e x h = (h.0, h.1)
  text_of (schedule name) e x h = (e, h)
  text_of (changes name) e x (inl h) = inl (h.0, h.1, h.3)
  text_of (changes name) e x (inr h) = inr (h.0, h.1, (h.2.0, h.2.1))
  text_of (in_order lines) e x h = in_order_text files t packets hops lines e x h
  text_of (rounds workers) e x h = (e, h)

  -- what is due is how the run ends, and its text
  module _ (order : Order) (ending : Ending) (text : List ℕ) (due : IsDue files (trace tables packets hops order) ending text) where
    due_runs : NetworkRunsTo files t packets hops order ending text
    due_runs =
        let (u, same, read, (other, ran)) = past (one_tables one (file_of files tables)) (λ e a. a ≡ Err e) (λ u a. (x : List ℕ) × NetworkRunsTo files u packets hops order a x) t spelled ending due.ends in
        let ours = subst (λ v. NetworkRunsTo files v packets hops order ending other) (sym same) ran in
        subst (NetworkRunsTo files t packets hops order ending) (same_text files tables packets hops order other text (due.no_other_text other (inr (t, spelled, text_of order ending other ours)))) ours

  module _ (status : ℕ) (old new : Option (List ℕ)) (err_before err_now : ℕ) (err_old err_new : Option (List ℕ)) where
    -- the call failed, or answered this
    abbrev Answered : Order → Type 0
    Answered order = IsFailure status ⊎ ((ending : Ending) × (text : List ℕ) × IsDue files (trace tables packets hops order) ending text × IsExact ending text status old new err_before err_now err_old err_new)

    pub runs_exactly : (order : Order) → Answered order
        → IsFailure status ⊎ ((ending : Ending) × (text : List ℕ) × NetworkRunsTo files t packets hops order ending text × IsExact ending text status old new err_before err_now err_old err_new)
    runs_exactly order (inl failed) = inl failed
    runs_exactly order (inr (ending, text, due, exact)) = inr (ending, text, due_runs order ending text due, exact)

    pub traces_exactly : Answered plain → IsFailure status ⊎ TracesAs t hops (spelled_for t (file_of files packets)) status old new
    traces_exactly (inl failed) = inl failed
    traces_exactly (inr (ending, text, due, exact)) =
        let read = spelled_for t (file_of files packets) in
        let ran = due_runs plain ending text due in
        inr (traces_as t hops read read.stop refl ran.0 ending text status old new ran.1 ran.2 exact.status_is exact.out)
