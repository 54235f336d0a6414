use Rattle.std.proofs.Common.{◌≤◌}
use Rattle.std.specs.Io.KnownBytes.{Appends}
use Rattle.std.specs.List.{flat_map, range_with_len}
use Rattle.snap_cli.specs.Routes.{lines_from}
use Rattle.snap_cli.proofs.routes.write_routes.Given as goal

abbrev pub invariant-loop-a : goal.invariant-loop-a
invariant-loop-a g l =
    let sink = g.O.Sink in
    record {
      written : Appends (sink.taken l.fn.out) (sink.taken l.out) (flat_map (lines_from l.switches l.routes) (range_with_len 0 l.a));
      later : sink.faults l.fn.out ≤ sink.faults l.out;
    }
