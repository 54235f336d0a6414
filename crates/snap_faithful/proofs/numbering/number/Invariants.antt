-- All nodes from here on are done.
use Rattle.std.proofs.Common.{◌-◌}
use Rattle.snap_faithful.specs.Marked.{Marks}
use Rattle.snap_faithful.proofs.numbering.number.Given as goal

abbrev pub invariant-loop-step : goal.invariant-loop-step
invariant-loop-step l = Marks l.nodes l.root (l.count - l.step) l.ids.items l.numbers.items l.reached.items
