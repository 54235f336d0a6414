use Rattle.std.proofs.Common.{◌≡◌, ◌≤◌, ◌∷◌, ap, sym, subst, ◌∙◌, length, arith, suc}
use Rattle.std.proofs.lemmas.List.{length-map}
use Rattle.std.specs.List.{IsDistinct}
use Rattle.std.specs.Map.{keys_of}
use Rattle.std.specs.Str.{bytes_eq}
use Rattle.snap_core.specs.Cells.{cell, cells_of, either}
use Rattle.snap_core.proofs.CellMerge.{IsDistinct-ordered, cell-put}
use Rattle.snap_core.proofs.array.Array.take.Goals as goal

pub loop-index-init : goal.loop-index-init
loop-index-init c =
    let given = c.into_iter-index-iterator.ensures.into_iter_gives in
    let same = given.0 in
    let all = ap cells_of same ∙ c.into_cells-index-items.ensures in
    record {
      room = subst (λ l. l ≤ c.args.self.now.1) (sym (ap length all) ∙ length-map c.into_iter-index-iterator.result (λ e. (e.0.items, e.1))) c.requires;
      distinct = subst (λ l. IsDistinct bytes_eq (keys_of (cells_of l))) (sym same) (IsDistinct-ordered c.into_cells-index-items.result.entries given.5);
      cells = λ q. ap (λ l. either (cell l q) (cell c.args.self.now.0 q)) all;
    }

pub loop-index-preserved : goal.loop-index-preserved
unfolding IsDistinct
loop-index-preserved c =
    let rest = c.next.new.self in let old = c.loop-index.self in let new = c.place.new.self in
    let k = c.in-Some.index.items in let v = c.in-Some.value in
    let left : c.loop-index.index-iterator ≡ (c.in-Some.index, v) ∷ rest = c.in-Some.ensures.steps in
    let distinct : IsDistinct bytes_eq (k ∷ keys_of (cells_of rest)) = subst (λ l. IsDistinct bytes_eq (keys_of (cells_of l))) left c.loop-index.invariant.distinct in
    let before : suc (length rest) ≤ old.1 = subst (λ l. length l ≤ old.1) left c.loop-index.invariant.room in
    record {
      room = (let kept = c.place.ensures.room in omega (arith, before, kept));
      distinct = distinct.1;
      cells = λ q.
          cell-put k v (cells_of rest) distinct q (cell old.0 q) (cell new.0 q) (c.place.ensures.cells q)
          ∙ ap (λ l. either (cell (cells_of l) q) (cell old.0 q)) (sym left)
          ∙ c.loop-index.invariant.cells q;
    }
