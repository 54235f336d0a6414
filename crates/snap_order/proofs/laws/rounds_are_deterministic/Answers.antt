use Rattle.snap_order.proofs.OneRounds.{round_reports_one, rounds_run_to_ends}
use Rattle.snap_order.proofs.laws.rounds_are_deterministic.Goals as goal

pub returns : goal.returns
returns c = record { reports = round_reports_one; runs = rounds_run_to_ends }
