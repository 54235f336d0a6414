use Rattle.snap_order.proofs.PlainTurns.{plain_turns}
use Rattle.snap_order.proofs.laws.plain_runs_take_turns.Goals as goal

pub returns : goal.returns
returns c = plain_turns
