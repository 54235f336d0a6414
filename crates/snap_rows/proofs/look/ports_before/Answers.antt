use Rattle.std.proofs.Common.{rules}
use Rattle.std.specs.Prelude.{nat_lt}
use Rattle.std.proofs.lemmas.List.Sorted.{IsPartitionPoint-from_clause}
use Rattle.snap_core.specs.declared.ports.PortAt.{PortAt}
use Rattle.snap_rows.proofs.Ports.{ports_parted}
use Rattle.snap_rows.proofs.look.ports_before.Goals as goal

pub returns : goal.returns
returns c = IsPartitionPoint-from_clause (λ (p : PortAt). nat_lt p.port c.args.number) _ _ c.partition_point.ensures.partitioned (ports_parted c.args.ports.now c.requires c.args.number) (λ a r q k. search rules)
