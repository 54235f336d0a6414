use Rattle.std.proofs.Common.{◌≡◌, ◌+◌, ◌≤◌, drop}
use Rattle.snap_cli.specs.Spots.{spot_after}
use Rattle.snap_cli.proofs.spot.spot_at.Given as goal

-- the bytes that are left lead from here to where all lead from the start
abbrev pub invariant-loop-byte : goal.invariant-loop-byte
invariant-loop-byte l = record {
  spot : spot_after l.spot (drop l.byte-index l.byte-items) ≡ spot_after (record { line = 1; column = 1 }) l.byte-items;
  line : l.spot.line ≤ l.byte-index + 1;
  column : l.spot.column ≤ l.byte-index + 1;
}
