use Rattle.std.proofs.Common.{◌++◌, map, ap, subst, ◌∙◌}
use Rattle.std.specs.List.{IsDistinct}
use Rattle.std.specs.Map.{keys_of}
use Rattle.std.specs.Str.{bytes_eq}
use Rattle.snap_core.specs.Cells.{cells_of, without}
use Rattle.snap_core.specs.Listing.{entries_of, entry_of}
use Rattle.snap_core.proofs.CellMerge.{IsDistinct-ordered}
use Rattle.snap_core.proofs.array.list_beside.Goals as goal

pub loop-index-init : goal.loop-index-init
loop-index-init c =
    let given = c.into_iter-index-iterator.ensures.into_iter_gives in
    record {
      items = ap (λ l. map entry_of c.args.listed.now.items ++ entries_of c.args.var (without c.args.table.now.0 l)) (ap cells_of given.0 ∙ c.cells-index-items.ensures);
      distinct = subst (λ l. IsDistinct bytes_eq (keys_of l)) c.cells-index-items.ensures (IsDistinct-ordered c.cells-index-items.result.now.entries given.5);
    }
