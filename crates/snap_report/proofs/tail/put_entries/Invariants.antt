use Rattle.std.proofs.Common.{◌++◌, ◌≤◌, take}
use Rattle.std.specs.List.{flat_map}
use Rattle.snap_report.specs.Reports.{listed_line}
use Rattle.snap_io.specs.Outputs.{Waits}
use Rattle.snap_report.proofs.tail.put_entries.Given as goal

abbrev pub invariant-loop-entry : goal.invariant-loop-entry
invariant-loop-entry g l =
    let sink = g.K.Sink in
    record {
      put : Waits (sink.taken l.fn.sink) (sink.taken l.sink) (l.fn.out.text.items ++ flat_map (listed_line l.names) (take l.entry-index l.entries)) l.out.text.items;
      later : sink.faults l.fn.sink ≤ sink.faults l.sink;
    }
