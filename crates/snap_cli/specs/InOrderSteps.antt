-- What a step of `trace --ordered` gives.
use Rattle.std.specs.Prelude.{◌≡◌, ◌⊎◌, ℕ, Bool, List, Some, None, Result, Err}
use Rattle.std.specs.Borrow.{Bor}
use Rattle.std.specs.declared.option.Option.{Option}
use Rattle.snap_io.specs.Files.{Files, file_of}
use Rattle.snap_rows.specs.declared.tables.Tables.{Tables}
use Rattle.snap_report.specs.OneSwitch.{RunEnding}
use Rattle.snap_runs.specs.declared.schedule.ScheduleFault.{ScheduleFault}
use Rattle.snap_order.specs.Runs.{WritesSchedule, WritesTrace}
use Rattle.snap_cli.specs.declared.refusal.Refusal.TheVariants.{VersionOne}
use Rattle.snap_cli.specs.Refusals.{Ending}
use Rattle.snap_cli.specs.RunSteps.{ending_of_run, ending_of_schedule}

-- what the run in order of tables of version 2 did: one packet after the other, or in the order of a schedule
abbrev pub MeetsTurns : Files → Tables → (hops : Bool) → (packets : Bor (List ℕ))
    → (lines : Option (Bor (List ℕ))) → Ending → Option (List ℕ) → Option (List ℕ) → Type 0
MeetsTurns files t hops packets None ending old new =
    (run : RunEnding) × WritesTrace t hops (file_of files packets.now) run old new × (ending ≡ ending_of_run packets run)
MeetsTurns files t hops packets (Some lines) ending old new =
    (run : Result (Unit {0}) ScheduleFault) × WritesSchedule t hops (file_of files packets.now) (file_of files lines.now) run old new
    × (ending ≡ ending_of_schedule packets lines run)

-- the same of tables of any version
abbrev pub MeetsInOrder : Files → Tables → (hops : Bool) → (packets : Bor (List ℕ))
    → (lines : Option (Bor (List ℕ))) → Ending → Option (List ℕ) → Option (List ℕ) → Type 0
MeetsInOrder files t hops packets lines ending old new =
    ((t.version ≡ 1) × (ending ≡ Err VersionOne) × (new ≡ old))
    ⊎ ((t.version ≡ 2) × MeetsTurns files t hops packets lines ending old new)
