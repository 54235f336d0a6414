-- Components and names of one field more.
use Rattle.std.proofs.Common.{◌≡◌, ◌+◌, List, [], ◌∷◌, ◌++◌, arith}
use Rattle.snap_core.specs.declared.program.Field.{Field}
use Rattle.snap_core.specs.Fields.{count, width}
use Rattle.snap_tables.specs.Entries.{all_declared, declared}
use Rattle.snap_tables.proofs.PieceLemmas.{flat_map-push}

pub count_push : (fs : List Field) (f : Field) → count (fs ++ (f ∷ [])) ≡ count fs + width f.prefix
count_push [] f = omega arith
count_push (g ∷ fs) f = omega (arith, count_push fs f)

pub all_declared_push : (fs : List Field) (f : Field) → all_declared (fs ++ (f ∷ [])) ≡ all_declared fs ++ declared f.name f.prefix
all_declared_push fs f = flat_map-push (λ (g : Field). declared g.name g.prefix) fs f
