use Rattle.std.proofs.Common.{◌≡◌}
use Rattle.std.specs.List.{flat_map, range_with_len}
use Rattle.snap_cli.specs.Routes.{line_between}
use Rattle.snap_cli.proofs.routes.lines_from.Given as goal

abbrev pub invariant-loop-b : goal.invariant-loop-b
invariant-loop-b l = l.text.items ≡ flat_map (line_between l.switches l.routes l.a) (range_with_len 0 l.b)
