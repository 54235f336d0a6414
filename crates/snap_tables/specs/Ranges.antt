-- Tables whose numbers have the bits of a text: 64, and 32 for a port.
use Rattle.std.specs.Prelude.{◌<◌, ◌^◌}
use Rattle.std.specs.List.{All}
use Rattle.snap_core.specs.declared.ports.PortAt.{PortAt}
use Rattle.snap_core.specs.Ranges.{OutInRange, TestInRange, UpdateInRange}
use Rattle.snap_rows.specs.declared.tables.Row.{Row}
use Rattle.snap_rows.specs.declared.tables.Row.TheVariants as row
use Rattle.snap_rows.specs.declared.tables.RowAt.{RowAt}
use Rattle.snap_rows.specs.declared.tables.Stage.{Stage as LeafStage}
use Rattle.snap_rows.specs.declared.tables.Tables.{Tables}

abbrev pub UpsInRange : LeafStage → Type 0
UpsInRange s = All UpdateInRange s.ups

abbrev pub RowInRange : Row → Type 0
RowInRange (row.Field test y z) = TestInRange test × (y < 2 ^ 64) × (z < 2 ^ 64)
RowInRange (row.State test y z) = TestInRange test × (y < 2 ^ 64) × (z < 2 ^ 64)
RowInRange (row.Go x) = Unit {0}
RowInRange (row.Leaf ss os) = All UpsInRange ss × All OutInRange os
RowInRange row.Stop = Unit {0}
RowInRange (row.Last us os) = All UpdateInRange us × All OutInRange os

pub record RowAtInRange (r : RowAt) : Type 0 where
  pub number : r.number < 2 ^ 64
  pub row : RowInRange r.row

pub record TablesInRange (t : Tables) : Type 0 where
  pub ports : All (λ (p : PortAt). p.port < 2 ^ 32) t.ports
  pub rows : All RowAtInRange t.rows
