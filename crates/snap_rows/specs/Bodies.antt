-- Rows by the places of their bodies.
use Rattle.std.specs.Prelude.{List, ◌<◌, length, slice_index_or}
use Rattle.snap_rows.specs.declared.lists.Lent.{Lent}
use Rattle.snap_rows.specs.declared.lists.Placed.{Placed}
use Rattle.snap_rows.specs.declared.tables.Row.{Row}
use Rattle.snap_rows.specs.declared.tables.Row.TheVariants.{Stop}
use Rattle.snap_rows.specs.declared.tables.RowAt.{RowAt}

-- the row with its body
abbrev pub placed : List Row → Placed → RowAt
placed bodies p = record { at = p.at; number = p.number; row = slice_index_or bodies p.body Stop }

abbrev pub IsPlaced : List Row → Placed → Type 0
IsPlaced bodies p = p.body < length bodies

-- a row that is lent
abbrev pub lent : Lent → RowAt
lent r = record { at = r.at; number = r.number; row = r.row.now }
