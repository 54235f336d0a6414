-- It isn't among those so far.
use Rattle.std.proofs.Common.{◌≡◌, drop}
use Rattle.snap_diagrams.specs.LeafCodes.{out_code}
use Rattle.snap_compose.specs.United.{has_code}
use Rattle.snap_compose.proofs.uniting.is_among.Given as goal

abbrev pub invariant-loop-other : goal.invariant-loop-other
invariant-loop-other l = has_code (out_code l.out) (drop l.other-index l.outs) ≡ has_code (out_code l.fn.out) l.fn.outs
