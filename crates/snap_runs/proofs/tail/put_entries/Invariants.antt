use Rattle.std.proofs.Common.{◌≡◌, ◌++◌, take}
use Rattle.std.specs.List.{flat_map}
use Rattle.snap_report.specs.Reports.{listed_line}
use Rattle.snap_runs.specs.Reports.{names_of}
use Rattle.snap_runs.proofs.tail.put_entries.Given as goal

abbrev pub invariant-loop-i : goal.invariant-loop-i
invariant-loop-i l = l.out.items ≡ l.initial.out.items ++ flat_map (listed_line (names_of l.arrays)) (take l.i l.entries)
