use Rattle.std.proofs.Common.{◌≡◌, ◌++◌, drop}
use Rattle.snap_net.specs.Frames.{packet_bytes}
use Rattle.snap_net.proofs.encode.put_packet.Given as goal

abbrev pub invariant-loop-comp : goal.invariant-loop-comp
invariant-loop-comp l = l.out.items ++ packet_bytes (drop l.comp-index l.comp-items) ≡ l.initial.out.items ++ packet_bytes l.packet
