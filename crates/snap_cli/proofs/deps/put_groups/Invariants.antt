use Rattle.std.proofs.Common.{◌≡◌, ◌++◌}
use Rattle.std.specs.List.{flat_map, range_with_len}
use Rattle.snap_cli.specs.Deps.{group_line}
use Rattle.snap_cli.proofs.deps.put_groups.Given as goal

abbrev pub invariant-loop-rank : goal.invariant-loop-rank
invariant-loop-rank l = l.out.items ≡ l.initial.out.items ++ flat_map (group_line l.names l.groups) (range_with_len 0 l.rank)
