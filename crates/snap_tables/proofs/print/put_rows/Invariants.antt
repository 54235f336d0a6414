use Rattle.std.proofs.Common.{◌++◌, ◌≤◌, take}
use Rattle.std.specs.List.{flat_map}
use Rattle.snap_io.specs.Outputs.{Waits}
use Rattle.snap_tables.specs.RowParts.{placed_line}
use Rattle.snap_tables.proofs.print.put_rows.Given as goal

abbrev pub invariant-loop-row : goal.invariant-loop-row
invariant-loop-row g l =
    let sink = g.K.Sink in
    record {
      put : Waits (sink.taken l.fn.sink) (sink.taken l.sink) (l.fn.out.text.items ++ flat_map (placed_line l.parts l.bodies) (take l.row-index l.rows)) l.out.text.items;
      later : sink.faults l.fn.sink ≤ sink.faults l.sink;
    }
