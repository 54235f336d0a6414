use Rattle.std.proofs.Common.{◌≡◌, ◌+◌, drop}
use Rattle.std.specs.Map.{lookup}
use Rattle.std.specs.Str.{bytes_eq}
use Rattle.snap_core.specs.Fields.{count, found, declared_from}
use Rattle.snap_core.proofs.program.Fields.find.Given as goal

-- the name stands for what it does among the fields that are left
abbrev pub invariant-loop-field : goal.invariant-loop-field
invariant-loop-field l = record {
  comps : l.comp + count (drop l.field-index l.field-items) ≡ count l.self;
  left : lookup (bytes_eq l.name) (declared_from l.comp (drop l.field-index l.field-items)) ≡ found l.self l.name;
}
