use Rattle.std.proofs.Common.{◌≡◌, drop}
use Rattle.snap_core.specs.Arrays.{updates}
use Rattle.snap_core.specs.Cells.{arrays_of, overlaid}
use Rattle.snap_core.proofs.store.Store.after_updates.Given as goal

-- what is left leads to what all lead to
abbrev pub invariant-loop-change : goal.invariant-loop-change
invariant-loop-change l = updates (overlaid (arrays_of l.self) l.done) (drop l.change-index l.changes) l.packet ≡ updates (arrays_of l.self) l.changes l.packet
