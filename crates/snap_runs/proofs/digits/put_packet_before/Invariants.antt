use Rattle.std.proofs.Common.{◌≡◌, ◌+◌, ◌*◌, ◌++◌, drop, length}
use Rattle.snap_net.specs.Frames.{packet_bytes}
use Rattle.snap_runs.proofs.digits.put_packet_before.Given as goal

-- the numbers from the last one on were put
abbrev pub invariant-loop-i : goal.invariant-loop-i
invariant-loop-i l = record {
  begin : l.begin + 8 * length l.comps ≡ l.end + 8 * l.i;
  text : drop l.begin l.buffer ≡ packet_bytes (drop l.i l.comps) ++ drop l.end l.fn.buffer;
}
