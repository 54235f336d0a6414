use Rattle.std.proofs.Common.{bit_or}
use Rattle.snap_core.proofs.run.Run.join.Goals as goal

pub returns : goal.returns
returns c = λ m n.
    let packets = c.in_ok-join.ensures in
    λ i. record { arrays = n; packets = packets i; reads = bit_or c.args.self.reads c.args.other.reads; writes = bit_or c.args.self.writes c.args.other.writes }
