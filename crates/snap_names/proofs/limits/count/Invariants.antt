use Rattle.std.proofs.Common.{◌≡◌, ◌+◌, ◌≤◌, min, drop}
use Rattle.snap_core.specs.Fields.{count}
use Rattle.snap_names.proofs.limits.count.Given as goal

-- The components so far and those of the fields that are left are all.
abbrev pub invariant-loop-field : goal.invariant-loop-field
invariant-loop-field l = record {
  kept : l.comps ≤ 4294967295;
  rest : min (l.comps + count (drop l.field-index l.fields)) 4294967295 ≡ min (count l.fields) 4294967295;
}
