-- Tables of one shape.
use Rattle.std.specs.Prelude.{◌≡◌}
use Rattle.snap_rows.specs.declared.tables.Tables.{Tables}
use Rattle.snap_runs.specs.Reports.{array_names}

-- equal fields, and equal names of arrays
pub record HaveOneShape (a b : Tables) : Type 0 where
  pub fields : a.fields ≡ b.fields
  pub names : array_names a ≡ array_names b
