use Rattle.std.proofs.Common.{Some, refl, sym, bit_or}
use Rattle.std.specs.Int.Bits.{or_zero_r}
use Rattle.snap_core.specs.Packets.{no_packets, with_packet}
use Rattle.snap_core.proofs.Lengths.{AllLong-one}
use Rattle.snap_core.proofs.eval.change.Goals as goal

pub returns-clause-ok : goal.returns-clause-ok
returns-clause-ok c =
    let logs = c.args.logs.now in let done = c.in_ok-update.ensures.ok in
    λ i. Some (record { arrays = sym done i; packets = with_packet no_packets c.args.packet.now; reads = or_zero_r logs.reads i; writes = bit_or logs.writes (sym c.bit.ensures i) })

pub returns-clause-lengths : goal.returns-clause-lengths
returns-clause-lengths c = AllLong-one _ _ refl
