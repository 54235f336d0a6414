use Rattle.snap_order.proofs.OneSchedule.{refused_lines_one, refused_lines_told, reported_or_refused, schedule_reports_one}
use Rattle.snap_order.proofs.laws.schedules_are_deterministic.Goals as goal

pub returns : goal.returns
returns c = record { reports = schedule_reports_one; lines = refused_lines_one; apart = reported_or_refused; told = refused_lines_told }
