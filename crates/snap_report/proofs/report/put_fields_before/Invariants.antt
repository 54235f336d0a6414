use Rattle.std.proofs.Common.{◌≡◌, ◌≤◌, ◌+◌, ◌-◌, ◌++◌, drop, take}
use Rattle.snap_core.specs.Fields.{count}
use Rattle.snap_report.specs.Reports.{fields_text}
use Rattle.snap_report.proofs.report.put_fields_before.Given as goal

-- the fields from the last one on were put
abbrev pub invariant-loop-i : goal.invariant-loop-i
invariant-loop-i l = record {
  begin : l.begin ≤ l.end;
  before : l.comp ≡ l.behind - count l.fields + count (take l.i l.fields);
  comps : l.comp + count (drop l.i l.fields) ≡ l.behind;
  text : drop l.begin l.buffer ≡ fields_text l.comp (drop l.i l.fields) l.packet ++ drop l.end l.fn.buffer;
}
