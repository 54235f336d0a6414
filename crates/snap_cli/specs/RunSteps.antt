-- How a command ends whose run over a packets file ends so.
use Rattle.std.specs.Prelude.{ℕ, List, Result, Ok, Err}
use Rattle.std.specs.Borrow.{Bor}
use Rattle.snap_core.specs.declared.program.Which.TheVariants.{Bytes}
use Rattle.snap_report.specs.OneSwitch.{RunEnding}
use Rattle.snap_runs.specs.declared.schedule.ScheduleFault.{ScheduleFault}
use Rattle.snap_runs.specs.declared.schedule.ScheduleFault.TheVariants as schedule
use Rattle.snap_cli.specs.declared.refusal.Refusal.{Refusal}
use Rattle.snap_cli.specs.declared.refusal.Refusal.TheVariants as refused
use Rattle.snap_cli.specs.Refusals.{Ending}
use Rattle.snap_cli.specs.Steps.{refusal_of_run}

-- how the command ends where its run over the packets file with this name ends so
abbrev pub ending_of_run : Bor (List ℕ) → RunEnding → Ending
ending_of_run packets (Ok u) = Ok tt
ending_of_run packets (Err fault) = Err (refusal_of_run packets fault)

-- the refusal of a run over files with these names
abbrev pub refusal_of_schedule : (packets lines : Bor (List ℕ)) → ScheduleFault → Refusal
refusal_of_schedule packets lines (schedule.Packets fault) = refusal_of_run packets fault
refusal_of_schedule packets lines schedule.Read = refused.Read lines
refusal_of_schedule packets lines schedule.TooLong = refused.Limit Bytes 67108865
refusal_of_schedule packets lines (schedule.Line line) = refused.Schedule line
refusal_of_schedule packets lines schedule.Write = refused.Write
refusal_of_schedule packets lines schedule.NoMemory = refused.NoMemory

-- how the command ends where its run in the order of the schedule with this name ends so
abbrev pub ending_of_schedule : (packets lines : Bor (List ℕ)) → Result (Unit {0}) ScheduleFault → Ending
ending_of_schedule packets lines (Ok u) = Ok tt
ending_of_schedule packets lines (Err fault) = Err (refusal_of_schedule packets lines fault)
