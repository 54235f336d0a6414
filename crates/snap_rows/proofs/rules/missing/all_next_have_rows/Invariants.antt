use Rattle.std.proofs.Common.{◌≡◌, ℕ, ◌<◌, Some}
use Rattle.std.specs.Prelude.{slice_get}
use Rattle.snap_rows.specs.declared.tables.RowAt.{RowAt}
use Rattle.snap_rows.specs.Leads.{HaveNext}
use Rattle.snap_rows.proofs.rules.missing.all_next_have_rows.Given as goal

abbrev pub invariant-loop-place : goal.invariant-loop-place
invariant-loop-place l = (i : ℕ) (r : RowAt) → i < l.place → slice_get l.tables.rows i ≡ Some r → HaveNext l.tables r.at r.number r.row
