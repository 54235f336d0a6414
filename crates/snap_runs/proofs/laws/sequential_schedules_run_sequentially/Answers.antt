use Rattle.snap_runs.proofs.SequentialSchedule.{sequential_runs, keeps_order}
use Rattle.snap_runs.proofs.laws.sequential_schedules_run_sequentially.Goals as goal

pub returns : goal.returns
returns c = record { sequential = sequential_runs; order = keeps_order }
