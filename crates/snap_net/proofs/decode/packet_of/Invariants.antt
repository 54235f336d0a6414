use Rattle.std.proofs.Common.{◌≡◌, ◌+◌, ◌++◌, ◌*◌, length}
use Rattle.snap_net.specs.Frames.{packet_bytes}
use Rattle.snap_net.proofs.decode.packet_of.Given as goal

abbrev pub invariant-loop-i : goal.invariant-loop-i
invariant-loop-i l = record {
  bytes : packet_bytes l.numbers.items ++ l.rest ≡ l.bytes;
  read : length l.numbers.items ≡ l.i;
  left : length l.rest + 8 * l.i ≡ 8 * l.comps;
}
