use Rattle.std.proofs.Common.{rules}
use Rattle.std.proofs.lemmas.List.Sorted.{IsPartitionPoint-from_clause}
use Rattle.snap_rows.specs.declared.tables.Hop.{Hop}
use Rattle.snap_rows.specs.Places.{is_before}
use Rattle.snap_rows.proofs.Search.{parted}
use Rattle.snap_rows.proofs.look.hops_before.Goals as goal

pub returns : goal.returns
returns c =
    let before = is_before (λ (h : Hop). h.from) (λ (h : Hop). h.target) c.args.at c.args.target in
    IsPartitionPoint-from_clause before _ _ c.partition_point.ensures.partitioned (parted (λ (h : Hop). h.from) (λ (h : Hop). h.target) c.args.hops.now c.requires c.args.at c.args.target) (λ a r q k. search rules)
