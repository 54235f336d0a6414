use Rattle.std.proofs.Common.{rules, ℕ}
use Rattle.std.proofs.lemmas.List.Sorted.{IsPartitionPoint-from_clause}
use Rattle.snap_rows.specs.Places.{is_before}
use Rattle.snap_rows.proofs.Search.{parted}
use Rattle.snap_rows.proofs.rules.link.links_before.Goals as goal

pub returns : goal.returns
returns c =
    let before = is_before (λ (l : ℕ × ℕ). l.0) (λ (l : ℕ × ℕ). l.1) c.args.a c.args.b in
    IsPartitionPoint-from_clause before _ _ c.partition_point.ensures.partitioned (parted (λ (l : ℕ × ℕ). l.0) (λ (l : ℕ × ℕ). l.1) c.args.links.now c.requires c.args.a c.args.b) (λ a r q k. search rules)
