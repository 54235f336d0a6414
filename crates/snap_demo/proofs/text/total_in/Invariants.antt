use Rattle.std.proofs.Common.{◌≡◌, take}
use Rattle.snap_demo.specs.Summary.{total_in}
use Rattle.snap_demo.proofs.text.total_in.Given as goal

abbrev pub invariant-loop-entry : goal.invariant-loop-entry
invariant-loop-entry l = l.total ≡ total_in l.var (take l.entry-index l.entries)
