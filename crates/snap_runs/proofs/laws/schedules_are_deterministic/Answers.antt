use Rattle.snap_runs.proofs.OneSchedule.{obeys_one, refused_lines_told, refused_one, reported_one, reported_or_refused}
use Rattle.snap_runs.proofs.laws.schedules_are_deterministic.Goals as goal

pub returns : goal.returns
returns c = record { runs = obeys_one; reports = reported_one; lines = refused_one; apart = reported_or_refused; told = refused_lines_told }
