use Rattle.std.proofs.Common.{◌≡◌, ◌++◌, map}
use Rattle.std.specs.List.{IsDistinct}
use Rattle.std.specs.Map.{keys_of}
use Rattle.std.specs.Str.{bytes_eq}
use Rattle.snap_core.specs.Cells.{cells_of}
use Rattle.snap_core.specs.Listing.{entries_of, entry_of}
use Rattle.snap_core.proofs.table.Table.list.Given as goal

-- the entries so far, and those of the cells that are left
abbrev pub invariant-loop-index : goal.invariant-loop-index
invariant-loop-index l = record {
  items : map entry_of l.listed.items ++ entries_of l.var (cells_of l.index-iterator) ≡ map entry_of l.fn.listed.items ++ entries_of l.var l.self.0;
  distinct : IsDistinct bytes_eq (keys_of l.self.0);
}
