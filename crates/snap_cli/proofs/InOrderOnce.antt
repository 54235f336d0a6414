-- A run in order ends in one way, with one text.
use Rattle.std.proofs.Common.{◌≡◌, ◌⊎◌, ℕ, Bool, List, [], Option, Some, None, Err, sym, ◌∙◌, inl, inr, arith}
use Rattle.snap_runs.specs.Plain.{EndsAs}
use Rattle.snap_order.specs.OneRun.{PlainBlocksAreOne, PlainReportsAreOne}
use Rattle.snap_order.specs.OneSchedule.{RefusedLinesAreOne, ReportedOrRefused, ScheduleReportsAreOne}
use Rattle.snap_order.specs.Runs.{ArePlainBlocks, HasScheduleReport, IsPlainReport, IsTrace, RefusesScheduleLine}
use Rattle.snap_cli.specs.InOrder.{IsInOrderText, IsTurnsText, RunsInOrderTo, TurnsTo}
use Rattle.snap_cli.proofs.Shared.{ended, Ending, file_of, Files, IsWellFormed, lines_of, option_map, refused, spelled_for, Stop, Tables, VersionOne}
use Rattle.snap_cli.proofs.ObsOnce.{AreOne, run_once}
use Rattle.snap_cli.proofs.Pipeline.{cases_once}
use Rattle.snap_cli.proofs.ScheduleOnce.{IsOne, ends_by_schedule_once}

-- what is known of runs in order
pub record TurnsAreOne : Type 0 where
  pub reports : PlainReportsAreOne
  pub blocks : PlainBlocksAreOne
  pub schedules : ScheduleReportsAreOne
  pub lines : RefusedLinesAreOne
  pub apart : ReportedOrRefused

-- a run over a packets file, whose blocks and whose report are one
pub read_once : (Blocks Report : List (List ℕ) → List ℕ → Type 0) (ks : List (List ℕ)) → ((a b : List ℕ) → Blocks ks a → Blocks ks b → a ≡ b) → ((a b : List ℕ) → Report ks a → Report ks b → a ≡ b)
    → (stop : Stop) → AreOne (EndsAs Blocks Report ks stop)
read_once Blocks Report ks blocks reports ended a b e f h k = (h.0 ∙ sym k.0, reports a b h.1 k.1)
read_once Blocks Report ks blocks reports (refused fault) a b e f h k = (h.0 ∙ sym k.0, blocks a b h.1 k.1)

-- a run of tables of version 2, where those of version 1 are refused
pub by_version_once : (n : ℕ) (Runs : Ending → List ℕ → Type 0) → AreOne Runs → AreOne (λ e x. ((n ≡ 1) × (e ≡ Err VersionOne) × (x ≡ [])) ⊎ ((n ≡ 2) × Runs e x))
by_version_once n Runs one x y a b =
    cases_once (λ h k. (h.1 ∙ sym k.1, h.2 ∙ sym k.2)) (λ h k. omega (arith, h.0, k.0)) (λ h k. omega (arith, h.0, k.0)) (λ h k. one x y a b h.1 k.1)

module _ (one : TurnsAreOne) (t : Tables) (form : IsWellFormed t) (hops : Bool) (file : List ℕ) where
  -- one packet after the other
  each_once : AreOne (IsTrace t hops file)
  each_once = let ks = (spelled_for t file).packets in read_once (ArePlainBlocks t hops) (IsPlainReport t hops) ks (one.blocks t form hops ks) (one.reports t form hops ks) (spelled_for t file).stop

  -- in the order of a schedule
  lines_are_one : (text : List ℕ) → IsOne t file text (HasScheduleReport t hops file text) (RefusesScheduleLine t file text)
  lines_are_one text = record {
    whole = λ report h. h.0;
    read = λ line h. h.0;
    report = λ a b h k. one.schedules t form hops (spelled_for t file).packets (lines_of text) a b h.1 k.1;
    line = λ a b h k. one.lines t form (spelled_for t file).packets (lines_of text) a b h.1 k.1;
    apart = λ report line h k. one.apart t form hops (spelled_for t file).packets (lines_of text) report line h.1 k.1;
  }

  turns_once : (schedule : Option (List ℕ)) → AreOne (TurnsTo t hops file schedule)
  turns_once None = run_once (IsTrace t hops file) each_once
  turns_once (Some text) = ends_by_schedule_once t file text (HasScheduleReport t hops file text) (RefusesScheduleLine t file text) (lines_are_one text)

  turns_text_once : (schedule : Option (List ℕ)) (a b : List ℕ) → IsTurnsText t hops file schedule a → IsTurnsText t hops file schedule b → a ≡ b
  turns_text_once None a b h k = (each_once a b h.0 k.0 h.1 k.1).1
  turns_text_once (Some text) a b h k = (turns_once (Some text) a b h.0 k.0 h.1 k.1).1

-- the text of a run
pub in_order_text : (files : Files) (t : Tables) (packets : List ℕ) (hops : Bool) (lines : Option (List ℕ)) (e : Ending) (x : List ℕ) → RunsInOrderTo files t packets hops lines e x → IsInOrderText files t packets hops lines x
in_order_text files t packets hops lines e x (inl h) = inl (h.0, h.2)
in_order_text files t packets hops None e x (inr h) = inr (h.0, (h.1.0, h.1.1))
in_order_text files t packets hops (Some name) e x (inr h) = inr (h.0, (e, h.1))

module _ (one : TurnsAreOne) (files : Files) (t : Tables) (form : IsWellFormed t) (packets : List ℕ) (hops : Bool) (lines : Option (List ℕ)) where
  pub in_order_once : AreOne (RunsInOrderTo files t packets hops lines)
  in_order_once = by_version_once t.version (TurnsTo t hops (file_of files packets) (option_map (file_of files) lines)) (turns_once one t form hops (file_of files packets) (option_map (file_of files) lines))

  pub in_order_text_once : (x y : List ℕ) → IsInOrderText files t packets hops lines x → IsInOrderText files t packets hops lines y → x ≡ y
  in_order_text_once x y =
      cases_once (λ h k. h.1 ∙ sym k.1) (λ h k. omega (arith, h.0, k.0)) (λ h k. omega (arith, h.0, k.0))
      (λ h k. turns_text_once one t form hops (file_of files packets) (option_map (file_of files) lines) x y h.1 k.1)
