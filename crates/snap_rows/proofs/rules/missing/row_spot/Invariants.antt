use Rattle.std.proofs.Common.{ℕ, ◌<◌}
use Rattle.snap_rows.specs.Rules.{Keeps}
use Rattle.snap_rows.specs.declared.tables.Rule.TheVariants.{Missing}
use Rattle.snap_rows.specs.declared.tables.Spot.TheVariants as spot
use Rattle.snap_rows.proofs.rules.missing.row_spot.Given as goal

abbrev pub invariant-loop-at : goal.invariant-loop-at
invariant-loop-at l = (i : ℕ) → i < l.at → Keeps l.tables Missing (spot.Row i)
