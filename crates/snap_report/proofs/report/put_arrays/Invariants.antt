use Rattle.std.proofs.Common.{◌≡◌, ◌++◌, take}
use Rattle.std.specs.List.{flat_map}
use Rattle.snap_report.specs.Reports.{listed_line}
use Rattle.snap_report.proofs.report.put_arrays.Given as goal

abbrev pub invariant-loop-entry : goal.invariant-loop-entry
invariant-loop-entry l = l.out.items ≡ l.initial.out.items ++ flat_map (listed_line l.names) (take l.entry-index l.entries)
