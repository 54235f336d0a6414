use Rattle.std.proofs.Common.{◌≡◌, ◌≤◌, ◌++◌, drop}
use Rattle.snap_report.specs.Reports.{index_text}
use Rattle.snap_report.proofs.report.put_index_before.Given as goal

-- the numbers from the last one on were put
abbrev pub invariant-loop-i : goal.invariant-loop-i
invariant-loop-i l = record {
  begin : l.begin ≤ l.end;
  text : drop l.begin l.buffer ≡ index_text (drop l.i l.index) ++ drop l.end l.fn.buffer;
}
