-- What is pushed so far and what is left are the code.
use Rattle.std.proofs.Common.{◌≡◌, ◌++◌, drop}
use Rattle.snap_diagrams.specs.LeafCodes.{outs_code}
use Rattle.snap_diagrams.proofs.leaf_codes.push_outs.Given as goal

abbrev pub invariant-loop-out : goal.invariant-loop-out
invariant-loop-out l = l.code.items ++ outs_code (drop l.out-index l.outs) ≡ l.fn.code.items ++ outs_code l.fn.outs
