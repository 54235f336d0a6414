use Rattle.snap_order.proofs.OneSwitch.{plain_turns_report, rounds_report, schedule_turns_report, turns_report}
use Rattle.snap_order.proofs.laws.runs_in_order_report_one_switch.Goals as goal

pub returns : goal.returns
returns c = record { all = turns_report; plain = plain_turns_report; schedules = schedule_turns_report; rounds = rounds_report }
