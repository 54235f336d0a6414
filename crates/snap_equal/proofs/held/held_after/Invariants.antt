-- What the place holds after the updates so far.
use Rattle.std.proofs.Common.{take}
use Rattle.snap_equal.specs.Held.{IsHeld}
use Rattle.snap_equal.proofs.held.held_after.Given as goal

abbrev pub invariant-loop-i : goal.invariant-loop-i
invariant-loop-i l = IsHeld l.ctx (take l.i l.updates) l.var l.index l.held
