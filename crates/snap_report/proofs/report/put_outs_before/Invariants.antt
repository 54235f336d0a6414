use Rattle.std.proofs.Common.{◌≡◌, ◌≤◌, ◌++◌, drop}
use Rattle.snap_report.specs.Reports.{out_lines}
use Rattle.snap_report.proofs.report.put_outs_before.Given as goal

-- the packets from the last one on were put
abbrev pub invariant-loop-i : goal.invariant-loop-i
invariant-loop-i l = record {
  begin : l.begin ≤ l.end;
  text : drop l.begin l.buffer ≡ out_lines l.fields (drop l.i l.packets) ++ drop l.end l.fn.buffer;
}
