use Rattle.std.proofs.Common.{◌≡◌, drop, length}
use Rattle.snap_core.specs.Tests.{after_out, with_parts}
use Rattle.snap_core.proofs.outs.put_values.Given as goal

-- the parts that are left
abbrev pub invariant-loop-at : goal.invariant-loop-at
invariant-loop-at l = record {
  rest : with_parts (drop l.at l.parts) l.fn.packet l.packet ≡ after_out l.parts l.fn.packet;
  long : length l.packet ≡ length l.fn.packet;
}
