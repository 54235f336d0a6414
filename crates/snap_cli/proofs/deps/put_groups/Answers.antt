use Rattle.snap_cli.specs.Deps.{group_line}
use Rattle.snap_cli.proofs.Rows.{rows_more}
use Rattle.snap_cli.proofs.deps.put_groups.Goals as goal

pub loop-rank-preserved : goal.loop-rank-preserved
loop-rank-preserved c =
    rows_more (group_line c.args.names.now c.args.groups.now) c.args.out.now.items c.loop-rank.out.items c.put_group.new.out.items c.loop-rank.rank
    c.loop-rank.invariant c.in_ok-put_group.ensures
