use Rattle.std.proofs.Common.{◌≡◌, ◌++◌, take}
use Rattle.std.specs.List.{flat_map}
use Rattle.snap_cli.specs.Deps.{dep_line}
use Rattle.snap_cli.proofs.deps.put_dependencies.Given as goal

abbrev pub invariant-loop-pair : goal.invariant-loop-pair
invariant-loop-pair l = l.out.items ≡ l.initial.out.items ++ flat_map (dep_line l.names) (take l.pair-index l.pairs)
