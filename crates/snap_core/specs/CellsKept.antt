-- Which places of a store have a cell.
use Rattle.std.specs.Prelude.{ℕ, Option, is_some, IsTrue}
use Rattle.snap_core.specs.declared.place.Place.{Place}
use Rattle.snap_core.specs.Cells.{Kept, array_at, cell}

-- the number of the cell at a place, if there is a cell
abbrev pub cell_at : Kept → Place → Option ℕ
cell_at m p = cell (array_at m p.var).0 p.index

-- each place with a cell in m has one in n
abbrev pub HasCellsOf : Kept → Kept → Type 0
HasCellsOf m n = (p : Place) → IsTrue (is_some (cell_at m p)) → IsTrue (is_some (cell_at n p))
