use Rattle.std.proofs.Common.{◌++◌, map, ap, sym, subst, ◌∙◌}
use Rattle.std.specs.List.{IsDistinct}
use Rattle.std.specs.Map.{keys_of}
use Rattle.std.specs.Str.{bytes_eq}
use Rattle.snap_core.specs.Cells.{cells_of}
use Rattle.snap_core.specs.Listing.{entries_of, entry_of}
use Rattle.snap_core.proofs.CellMerge.{IsDistinct-cells_of}
use Rattle.snap_core.proofs.Entries.{entries_of-zero}
use Rattle.snap_core.proofs.table.Table.list.Goals as goal

pub loop-index-init : goal.loop-index-init
loop-index-init c =
    let given = c.into_iter-index-iterator.ensures.into_iter_gives in
    record {
      items = ap (λ l. map entry_of c.args.listed.now.items ++ entries_of c.args.var l) (ap cells_of given.0 ∙ ap (λ v. v.0) c.self.view_is);
      distinct = subst (λ v. IsDistinct bytes_eq (keys_of v.0)) c.self.view_is (IsDistinct-cells_of c.self.inside.cells.entries given.4);
    }

pub loop-index-preserved : goal.loop-index-preserved
loop-index-preserved c =
    let es = map entry_of c.loop-index.listed.items in let s = c.args.var in
    record {
      items =
          ap (λ l. es ++ l) (sym (entries_of-zero s c.in-Some.index.now.items c.in-Some.value.now (cells_of c.next.new.self) c.if-value-ne0.false))
          ∙ ap (λ l. es ++ entries_of s (cells_of l)) (sym c.in-Some.ensures.steps)
          ∙ c.loop-index.invariant.items;
      distinct = c.loop-index.invariant.distinct;
    }
