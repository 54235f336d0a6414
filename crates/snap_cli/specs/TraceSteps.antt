-- What a step of `trace` gives.
use Rattle.std.specs.Prelude.{◌≡◌, ℕ, Bool, List, Result, Ok, Err}
use Rattle.std.specs.Borrow.{Bor}
use Rattle.std.specs.declared.option.Option.{Option}
use Rattle.snap_io.specs.Files.{Files, file_of}
use Rattle.snap_rows.specs.declared.tables.Tables.{Tables}
use Rattle.snap_tables.specs.Lines.{IsRead}
use Rattle.snap_tables.specs.declared.fault.TablesFault.{TablesFault}
use Rattle.snap_tables.specs.declared.fault.TablesFault.TheVariants as tables
use Rattle.snap_report.specs.OneSwitch.{RunEnding}
use Rattle.snap_runs.specs.Plain.{WritesTrace}
use Rattle.snap_runs.specs.Schedules.{WritesSchedule}
use Rattle.snap_runs.specs.declared.schedule.ScheduleFault.{ScheduleFault}
use Rattle.snap_words.specs.declared.command.Order.{Order}
use Rattle.snap_words.specs.declared.command.Order.TheVariants as order
use Rattle.snap_cli.specs.declared.refusal.NoTables.TheVariants.{Line, Broken}
use Rattle.snap_cli.specs.declared.refusal.Refusal.{Refusal}
use Rattle.snap_cli.specs.declared.refusal.Refusal.TheVariants as refused
use Rattle.snap_cli.specs.Refusals.{Ending}
use Rattle.snap_cli.specs.ChangesSteps.{MeetsChanges}
use Rattle.snap_cli.specs.InOrderSteps.{MeetsInOrder}
use Rattle.snap_cli.specs.RoundsSteps.{MeetsByRounds}
use Rattle.snap_cli.specs.RunSteps.{ending_of_run, ending_of_schedule}
use Rattle.snap_cli.specs.TablesOf.{SpellsTables, TablesOf}
use Rattle.snap_cli.specs.Texts.{RefusesBy}

-- the refusal of a text that spells no valid tables
abbrev pub refusal_of_tables : TablesFault → Refusal
refusal_of_tables (tables.Line line) = refused.Tables (Line line)
refusal_of_tables (tables.Limit which count) = refused.Limit which count
refusal_of_tables (tables.Broken rule line) = refused.Tables (Broken rule line)
refusal_of_tables tables.NoMemory = refused.NoMemory

-- the tables that a text spells
abbrev pub ReadsTables : List ℕ → Result Tables Refusal → Type 0
ReadsTables text (Ok t) = IsRead text (Ok t)
ReadsTables text (Err e) = RefusesBy (λ failed. ⊥) (λ refusal. SpellsTables text (Err refusal)) e

-- the tables that the file with this name spells
abbrev pub LoadsTables : (name file : List ℕ) → Result Tables Refusal → Type 0
LoadsTables name file (Ok t) = TablesOf file (Ok t)
LoadsTables name file (Err e) = RefusesBy (λ failed. failed ≡ name) (λ refusal. TablesOf file (Err refusal)) e

-- what the run of tables that were read did, over the packets file with this name
abbrev pub MeetsTrace : Tables → (hops : Bool) → (packets : Bor (List ℕ))
    → (file : List ℕ) → Ending → Option (List ℕ) → Option (List ℕ) → Type 0
MeetsTrace t hops packets file ending old new = (run : RunEnding)
    × WritesTrace t hops file run old new × (ending ≡ ending_of_run packets run)

-- ---- schedules
-- what the run of a schedule with this name did
abbrev pub MeetsSchedule : Files → Tables → (hops : Bool) → (packets lines : Bor (List ℕ))
    → Ending → Option (List ℕ) → Option (List ℕ) → Type 0
MeetsSchedule files t hops packets lines ending old new = (run : Result (Unit {0}) ScheduleFault)
    × WritesSchedule t hops (file_of files packets.now) (file_of files lines.now) run old new
    × (ending ≡ ending_of_schedule packets lines run)

-- what the run of tables in this order did
abbrev pub MeetsOrder : Files → Tables → (hops : Bool) → (packets : Bor (List ℕ))
    → Order → Ending → Option (List ℕ) → Option (List ℕ) → Type 0
MeetsOrder files t hops packets order.Plain ending old new = MeetsTrace t hops packets (file_of files packets.now) ending old new
MeetsOrder files t hops packets (order.Schedule lines) ending old new = MeetsSchedule files t hops packets lines ending old new
MeetsOrder files t hops packets (order.Changes lines) ending old new = MeetsChanges files t hops packets lines.now ending old new
MeetsOrder files t hops packets (order.InOrder lines) ending old new = MeetsInOrder files t hops packets lines ending old new
MeetsOrder files t hops packets (order.Rounds workers) ending old new = MeetsByRounds files t hops packets ending old new
