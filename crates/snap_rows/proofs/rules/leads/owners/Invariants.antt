use Rattle.std.proofs.Common.{ℕ}
use Rattle.std.specs.Prelude.{◌↔◌, Contains}
use Rattle.snap_rows.specs.Ways.{OwnsBelow}
use Rattle.snap_rows.proofs.rules.leads.owners.Given as goal

abbrev pub invariant-loop-rank : goal.invariant-loop-rank
invariant-loop-rank l = (x : ℕ) → OwnsBelow l.tables l.rank x ↔ Contains l.owners.items x
