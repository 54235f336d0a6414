use Rattle.std.proofs.Common.{◌≡◌, ◌+◌, ◌++◌, drop}
use Rattle.snap_core.specs.Fields.{count}
use Rattle.snap_report.specs.Reports.{fields_text}
use Rattle.snap_report.proofs.report.put_each_field.Given as goal

-- the fields that are left follow what was put
abbrev pub invariant-loop-field : goal.invariant-loop-field
invariant-loop-field l = record {
  text : l.out.items ++ fields_text l.comp (drop l.field-index l.field-items) l.packet ≡ l.initial.out.items ++ fields_text 0 l.fields l.packet;
  comps : l.comp + count (drop l.field-index l.field-items) ≡ count l.fields;
}
