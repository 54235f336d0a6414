-- The numbers so far.
use Rattle.std.proofs.Common.{◌≡◌, take, map}
use Rattle.snap_core.specs.Arrays.{value_of}
use Rattle.snap_diagrams.proofs.walking.fill.Given as goal

abbrev pub invariant-loop-at : goal.invariant-loop-at
invariant-loop-at l = take l.at l.numbers ≡ map (λ a. value_of a l.packet) (take l.at l.index)
