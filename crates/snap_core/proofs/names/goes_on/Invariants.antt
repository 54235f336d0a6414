use Rattle.std.proofs.Common.{◌≡◌, length}
use Rattle.snap_core.specs.Names.{goes_on}
use Rattle.snap_core.proofs.names.goes_on.Given as goal

abbrev pub invariant-loop-byte : goal.invariant-loop-byte
invariant-loop-byte l = goes_on l.rest ≡ goes_on l.text

abbrev pub decreases-loop-byte : goal.decreases-loop-byte
decreases-loop-byte l = length l.rest
