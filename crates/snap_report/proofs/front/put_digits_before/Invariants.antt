use Rattle.std.proofs.Common.{◌≡◌, ◌+◌, ◌≤◌, ◌++◌, decimal, drop, length}
use Rattle.snap_report.proofs.front.put_digits_before.Given as goal

-- what is left, and the digits behind it
abbrev pub invariant-loop-left : goal.invariant-loop-left
invariant-loop-left l = record {
  within : l.begin ≤ l.end;
  room : length (decimal l.left) ≤ l.begin;
  begin : l.begin + length (decimal l.number) ≡ l.end + length (decimal l.left);
  text : decimal l.left ++ drop l.begin l.buffer ≡ decimal l.number ++ drop l.end l.fn.buffer;
}

abbrev pub decreases-loop-left : goal.decreases-loop-left
decreases-loop-left l = l.left
