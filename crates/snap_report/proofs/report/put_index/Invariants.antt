use Rattle.std.proofs.Common.{◌≡◌, ◌++◌, take}
use Rattle.snap_report.specs.Reports.{index_text}
use Rattle.snap_report.proofs.report.put_index.Given as goal

abbrev pub invariant-loop-number : goal.invariant-loop-number
invariant-loop-number l = l.out.items ≡ l.initial.out.items ++ index_text (take l.number-index l.index)
