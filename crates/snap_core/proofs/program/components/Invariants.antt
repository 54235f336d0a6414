use Rattle.std.proofs.Common.{◌≡◌, ◌+◌, drop}
use Rattle.snap_core.specs.Fields.{count}
use Rattle.snap_core.proofs.program.components.Given as goal

-- the components so far and those that are left
abbrev pub invariant-loop-field : goal.invariant-loop-field
invariant-loop-field l = l.components + count (drop l.field-index l.fields) ≡ count l.fields
