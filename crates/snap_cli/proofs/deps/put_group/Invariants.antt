use Rattle.std.proofs.Common.{◌≡◌, ◌==◌, ◌++◌}
use Rattle.std.specs.List.{filter, flat_map, range_with_len}
use Rattle.snap_dep.specs.Ranks.{rank_of}
use Rattle.snap_cli.specs.Deps.{member_text}
use Rattle.snap_cli.proofs.deps.put_group.Given as goal

abbrev pub invariant-loop-var : goal.invariant-loop-var
invariant-loop-var l =
    l.out.items ≡ l.initial.out.items ++ flat_map (member_text l.names) (filter (λ v. rank_of l.groups v == l.rank) (range_with_len 0 l.var))
