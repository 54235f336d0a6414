-- The tables of a changes file, and how the run with them ends.
use Rattle.std.specs.Prelude.{◌≡◌, ◌⊎◌, ℕ, ◌<◌, ◌≤◌, Bool, List, [], ◌∷◌, ◌++◌, length, slice_get, take, Result, Ok, Err, Some}
use Rattle.std.specs.List.{All}
use Rattle.snap_core.specs.declared.program.Which.TheVariants.{Bytes}
use Rattle.snap_io.specs.Files.{Files, file_of}
use Rattle.snap_rows.specs.declared.tables.Tables.{Tables}
use Rattle.snap_report.specs.OneSwitch.{RunEnding}
use Rattle.snap_runs.specs.declared.change.Change.{Change}
use Rattle.snap_runs.specs.declared.change.ChangesFault.{ChangesFault}
use Rattle.snap_runs.specs.declared.change.ChangesFault.TheVariants as fault
use Rattle.snap_runs.specs.declared.later.Later.{Later}
use Rattle.snap_runs.specs.ChangedFiles.{AreChangedTraceBlocks, IsChangedTrace}
use Rattle.snap_runs.specs.ChangeLines.{changes_of}
use Rattle.snap_runs.specs.Shapes.{HaveOneShape}
use Rattle.snap_cli.specs.declared.refusal.Refusal.{Refusal}
use Rattle.snap_cli.specs.declared.refusal.Refusal.TheVariants.{Changes, Limit, NoMemory}
use Rattle.snap_cli.specs.Obs.{IsRunEnding}
use Rattle.snap_cli.specs.Refusals.{Ending}
use Rattle.snap_cli.specs.TablesOf.{TablesOf}

-- ---- the changes that a file says
abbrev pub refusal_of_changes : ChangesFault → Refusal
refusal_of_changes (fault.Line line) = Changes line
refusal_of_changes (fault.Limit which count) = Limit which count
refusal_of_changes fault.NoMemory = NoMemory

abbrev pub said_changes : Result (List Change) ChangesFault → Result (List Change) Refusal
said_changes (Ok changes) = Ok changes
said_changes (Err e) = Err (refusal_of_changes e)

-- A file of more than 1,048,576 bytes is refused, whatever it says.
abbrev pub ChangesOf : List ℕ → Result (List Change) Refusal → Type 0
ChangesOf file result =
    ((1048576 < length file) × (result ≡ Err (Limit Bytes 1048577)))
    ⊎ ((length file ≤ 1048576) × (result ≡ said_changes (changes_of file)))

-- ---- their tables
-- the tables of a change can come into force
pub record IsLater (files : Files) (first : Tables) (c : Change) (l : Later) : Type 0 where
  pub after : l.after ≡ c.after
  pub spelled : TablesOf (file_of files c.name) (Ok l.tables)
  pub shape : HaveOneShape l.tables first

-- or its file spells none, or those of another shape
abbrev pub RefusesLater : Files → Tables → Change → Refusal → Type 0
RefusesLater files first c refusal =
    TablesOf (file_of files c.name) (Err refusal)
    ⊎ ((t : Tables) × TablesOf (file_of files c.name) (Ok t) × ¬ HaveOneShape t first × (refusal ≡ Changes c.line))

-- some later tables stand before the others
abbrev pub before : List Later → Result (List Later) Refusal → Result (List Later) Refusal
before ls (Ok others) = Ok (ls ++ others)
before ls (Err refusal) = Err refusal

-- the tables of all changes in their order, or the first refusal
abbrev pub LaterOf : Files → Tables → List Change → Result (List Later) Refusal → Type 0
LaterOf files first [] result = result ≡ Ok []
LaterOf files first (c ∷ cs) result =
    ((refusal : Refusal) × RefusesLater files first c refusal × (result ≡ Err refusal))
    ⊎ ((l : Later) × IsLater files first c l
    × ((others : Result (List Later) Refusal) × LaterOf files first cs others × (result ≡ before (l ∷ []) others)))

-- those of the changes file with this name
abbrev pub ChangedTables : Files → Tables → (lines : List ℕ) → Result (List Later) Refusal → Type 0
ChangedTables files first lines result =
    ((refusal : Refusal) × ChangesOf (file_of files lines) (Err refusal) × (result ≡ Err refusal))
    ⊎ ((changes : List Change) × ChangesOf (file_of files lines) (Ok changes) × LaterOf files first changes result)

-- the file of a change spells tables that can come into force
abbrev pub HasLater : Files → Tables → Change → Type 0
HasLater files first c = (l : Later) × IsLater files first c l

-- a change names this file, and the files of the changes before it spell such tables
abbrev pub IsReachedChange : Files → Tables → List Change → (name : List ℕ) → Type 0
IsReachedChange files first changes name =
    (i : ℕ) × (c : Change) × (slice_get changes i ≡ Some c) × (name ≡ c.name) × All (HasLater files first) (take i changes)

-- the changes file has this name, or that of a change, where the changes file is in form
abbrev pub IsReachedByChanges : Files → Tables → (lines name : List ℕ) → Type 0
IsReachedByChanges files first lines name =
    (name ≡ lines) ⊎ ((changes : List Change) × ChangesOf (file_of files lines) (Ok changes) × IsReachedChange files first changes name)

-- ---- the run
-- how the run with the changes of a file ends, and its report
abbrev pub ChangesTo : Files → Tables → (packets : List ℕ) → (hops : Bool) → (lines : List ℕ) → Ending → List ℕ → Type 0
ChangesTo files t packets hops lines ending text =
    ((refusal : Refusal) × ChangedTables files t lines (Err refusal) × (ending ≡ Err refusal) × (text ≡ []))
    ⊎ ((later : List Later) × ChangedTables files t lines (Ok later)
    × ((run : RunEnding) × IsChangedTrace t later hops (file_of files packets) run text × IsRunEnding run ending))

-- the text that has gone out then
abbrev pub IsChangesText : Files → Tables → (packets : List ℕ) → (hops : Bool) → (lines : List ℕ) → List ℕ → Type 0
IsChangesText files t packets hops lines text =
    ((refusal : Refusal) × ChangedTables files t lines (Err refusal) × (text ≡ []))
    ⊎ ((later : List Later) × ChangedTables files t lines (Ok later)
    × ((run : RunEnding) × IsChangedTrace t later hops (file_of files packets) run text))

-- some first blocks of it
abbrev pub AreBlocksOfChanges : Files → Tables → (packets : List ℕ) → (hops : Bool) → (lines : List ℕ) → List ℕ → Type 0
AreBlocksOfChanges files t packets hops lines text = (later : List Later)
    × ChangedTables files t lines (Ok later) × AreChangedTraceBlocks t later hops (file_of files packets) text
