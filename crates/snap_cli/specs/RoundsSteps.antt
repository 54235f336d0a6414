-- What a step of `trace --ordered --workers` gives.
use Rattle.std.specs.Prelude.{◌≡◌, ◌⊎◌, ℕ, Bool, List, Err}
use Rattle.std.specs.Borrow.{Bor}
use Rattle.std.specs.declared.option.Option.{Option}
use Rattle.snap_io.specs.Files.{Files, file_of}
use Rattle.snap_rows.specs.declared.tables.Tables.{Tables}
use Rattle.snap_report.specs.OneSwitch.{RunEnding}
use Rattle.snap_order.specs.Rounds.{WritesRounds}
use Rattle.snap_cli.specs.declared.refusal.Refusal.TheVariants.{VersionOne}
use Rattle.snap_cli.specs.Refusals.{Ending}
use Rattle.snap_cli.specs.RunSteps.{ending_of_run}

-- what the run by rounds of tables of version 2 did
abbrev pub MeetsRounds : Files → Tables → (hops : Bool) → (packets : Bor (List ℕ)) → Ending → Option (List ℕ) → Option (List ℕ) → Type 0
MeetsRounds files t hops packets ending old new =
    (run : RunEnding) × WritesRounds t hops (file_of files packets.now) run old new × (ending ≡ ending_of_run packets run)

-- the same of tables of any version
abbrev pub MeetsByRounds : Files → Tables → (hops : Bool) → (packets : Bor (List ℕ)) → Ending → Option (List ℕ) → Option (List ℕ) → Type 0
MeetsByRounds files t hops packets ending old new =
    ((t.version ≡ 1) × (ending ≡ Err VersionOne) × (new ≡ old))
    ⊎ ((t.version ≡ 2) × MeetsRounds files t hops packets ending old new)
