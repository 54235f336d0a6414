use Rattle.std.proofs.Common.{◌≡◌, ◌++◌, take}
use Rattle.std.specs.List.{flat_map}
use Rattle.snap_report.specs.Reports.{out_line}
use Rattle.snap_runs.proofs.tally.put_outs.Given as goal

abbrev pub invariant-loop-packet : goal.invariant-loop-packet
invariant-loop-packet l = l.out.items ≡ l.initial.out.items ++ flat_map (out_line l.fields) (take l.packet-index l.packets)
