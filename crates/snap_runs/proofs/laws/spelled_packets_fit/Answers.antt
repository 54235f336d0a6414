use Rattle.snap_runs.proofs.SpelledPackets.{spelled_packets_fit, spelled_for_is_spelled}
use Rattle.snap_runs.proofs.laws.spelled_packets_fit.Goals as goal

pub returns : goal.returns
returns c = record { fit = spelled_packets_fit; whole = spelled_for_is_spelled }
