-- What is added so far, and what is left.
use Rattle.std.proofs.Common.{◌≡◌, drop}
use Rattle.snap_compose.specs.United.{Knows, with_outs}
use Rattle.snap_compose.proofs.uniting.add_all.Given as goal

abbrev pub invariant-loop-out : goal.invariant-loop-out
invariant-loop-out l = (with_outs l.kept.items (drop l.out-index l.outs) ≡ with_outs l.fn.kept.items l.fn.outs) × Knows l.codes l.kept.items
