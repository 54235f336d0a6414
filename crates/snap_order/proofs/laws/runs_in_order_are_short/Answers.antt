use Rattle.snap_order.proofs.ShortTurns.{short_plain_turns, short_turns}
use Rattle.snap_order.proofs.laws.runs_in_order_are_short.Goals as goal

pub returns : goal.returns
returns c = record { all = short_turns; plain = short_plain_turns }
