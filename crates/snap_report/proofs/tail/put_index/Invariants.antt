use Rattle.std.proofs.Common.{◌++◌, ◌≤◌, take}
use Rattle.snap_report.specs.Reports.{index_text}
use Rattle.snap_io.specs.Outputs.{Waits}
use Rattle.snap_report.proofs.tail.put_index.Given as goal

abbrev pub invariant-loop-number : goal.invariant-loop-number
invariant-loop-number g l =
    let sink = g.K.Sink in
    record {
      put : Waits (sink.taken l.fn.sink) (sink.taken l.sink) (l.fn.out.text.items ++ index_text (take l.number-index l.index)) l.out.text.items;
      later : sink.faults l.fn.sink ≤ sink.faults l.sink;
    }
