use Rattle.std.proofs.Common.{rules, ◌≡◌, true, false, map, sym, subst}
use Rattle.std.specs.List.Sorted.{IsPartitionPoint, IsStrictlySortedBy}
use Rattle.std.proofs.lemmas.List.Sorted.{IsPartitionPoint-from_clause}
use Rattle.snap_rows.specs.Bodies.{placed}
use Rattle.snap_rows.specs.Form.{row_cmp}
use Rattle.snap_rows.specs.Places.{is_before}
use Rattle.snap_rows.specs.declared.lists.Placed.{Placed}
use Rattle.snap_rows.specs.declared.tables.RowAt.{RowAt}
use Rattle.snap_rows.proofs.Bodies.{parted_places, point_of_places}
use Rattle.snap_rows.proofs.Search.{parted}
use Rattle.snap_rows.proofs.look.rows_before.Goals as goal

pub returns : goal.returns
returns c =
    let at = c.args.at in
    let number = c.args.number in
    let bodies = c.parts.result.0.now in
    let rows = c.parts.result.1.now in
    let rising = subst (IsStrictlySortedBy row_cmp) c.parts.ensures.are c.requires in
    let point = IsPartitionPoint-from_clause (is_before (λ (p : Placed). p.at) (λ (p : Placed). p.number) at number) _ _ c.partition_point.ensures.partitioned
    (parted_places bodies at number rows (parted (λ (r : RowAt). r.at) (λ (r : RowAt). r.number) (map (placed bodies) rows) rising at number)) (λ a r q k. search rules) in
    subst (λ rs. IsPartitionPoint (λ r. is_before (λ (r : RowAt). r.at) (λ (r : RowAt). r.number) at number r ≡ true) (λ r. is_before (λ (r : RowAt). r.at) (λ (r : RowAt). r.number) at number r ≡ false) rs c.partition_point.result) (sym c.parts.ensures.are)
    (point_of_places bodies at number rows c.partition_point.result point)
