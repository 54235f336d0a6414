-- What a step of `trace --changes` gives.
use Rattle.std.specs.Prelude.{◌≡◌, ◌⊎◌, ℕ, Bool, List, map, Result, Ok, Err}
use Rattle.std.specs.Borrow.{Bor}
use Rattle.std.specs.declared.option.Option.{Option}
use Rattle.snap_io.specs.Files.{Files, file_of}
use Rattle.snap_rows.specs.declared.tables.Tables.{Tables}
use Rattle.snap_report.specs.OneSwitch.{RunEnding}
use Rattle.snap_runs.specs.declared.change.Change.{Change}
use Rattle.snap_runs.specs.declared.later.Later.{Later}
use Rattle.snap_runs.specs.ChangedFiles.{WritesChanged}
use Rattle.snap_runs.specs.ChangeLines.{changes_of}
use Rattle.std.specs.Global.{Vec}
use Rattle.snap_cli.specs.declared.refusal.Refusal.{Refusal}
use Rattle.snap_cli.specs.Changes.{ChangedTables, ChangesOf, IsLater, IsReachedByChanges, IsReachedChange, LaterOf, RefusesLater, said_changes}
use Rattle.snap_cli.specs.Refusals.{Ending}
use Rattle.snap_cli.specs.Texts.{RefusesBy}
use Rattle.snap_cli.specs.RunSteps.{ending_of_run}

-- ---- the changes file
-- the changes that a text says
abbrev pub ReadsChanges : List ℕ → Result (Vec Change) Refusal → Type 0
ReadsChanges text (Ok changes) = changes_of text ≡ Ok changes.items
ReadsChanges text (Err e) = RefusesBy (λ failed. ⊥) (λ refusal. said_changes (changes_of text) ≡ Err refusal) e

-- those of the file with this name
abbrev pub GivesChanges : (name file : List ℕ) → Result (Vec Change) Refusal → Type 0
GivesChanges name file (Ok changes) = ChangesOf file (Ok changes.items)
GivesChanges name file (Err e) = RefusesBy (λ failed. failed ≡ name) (λ refusal. ChangesOf file (Err refusal)) e

-- ---- tables
-- those of one change
abbrev pub LoadsLater : Files → Tables → Change → Result Later Refusal → Type 0
LoadsLater files first c (Ok l) = IsLater files first c l
LoadsLater files first c (Err e) = RefusesBy (λ failed. failed ≡ c.name) (RefusesLater files first c) e

-- those of changes
abbrev pub LoadsLaters : Files → Tables → List Change → Result (Vec Later) Refusal → Type 0
LoadsLaters files first changes (Ok later) = LaterOf files first changes (Ok later.items)
LoadsLaters files first changes (Err e) = RefusesBy (IsReachedChange files first changes)
    (λ refusal. LaterOf files first changes (Err refusal)) e

-- those of the changes file with this name
abbrev pub LoadsChanges : Files → Tables → (name : List ℕ) → Result (Vec Later) Refusal → Type 0
LoadsChanges files first name (Ok later) = ChangedTables files first name (Ok later.items)
LoadsChanges files first name (Err e) = RefusesBy (IsReachedByChanges files first name)
    (λ refusal. ChangedTables files first name (Err refusal)) e

-- the numbers of packets of later tables, and of changes
abbrev pub afters : List Later → List ℕ
afters later = map (λ (l : Later). l.after) later

abbrev pub afters_of : List Change → List ℕ
afters_of changes = map (λ (c : Change). c.after) changes

-- ---- the run
-- what the run of tables that were all read did, over the packets file with this name
abbrev pub MeetsLater : Tables → List Later → (hops : Bool) → (packets : Bor (List ℕ))
    → (file : List ℕ) → Ending → Option (List ℕ) → Option (List ℕ) → Type 0
MeetsLater t later hops packets file ending old new = (run : RunEnding)
    × WritesChanged t later hops file run old new × (ending ≡ ending_of_run packets run)

-- what the run with the changes of the file with this name did
abbrev pub MeetsChanges : Files → Tables → (hops : Bool) → (packets : Bor (List ℕ))
    → (lines : List ℕ) → Ending → Option (List ℕ) → Option (List ℕ) → Type 0
MeetsChanges files t hops packets lines ending old new =
    ((refusal : Refusal) × RefusesBy (IsReachedByChanges files t lines) (λ r. ChangedTables files t lines (Err r)) refusal
    × (ending ≡ Err refusal) × (new ≡ old))
    ⊎ ((later : List Later) × ChangedTables files t lines (Ok later)
    × MeetsLater t later hops packets (file_of files packets.now) ending old new)
