-- What is pushed so far and what is left are the code.
use Rattle.std.proofs.Common.{◌≡◌, ◌++◌, drop}
use Rattle.snap_diagrams.specs.LeafCodes.{out_code}
use Rattle.snap_diagrams.proofs.leaf_codes.push_out.Given as goal

abbrev pub invariant-loop-comp : goal.invariant-loop-comp
invariant-loop-comp l = l.code.items ++ out_code (drop l.comp-index l.out) ≡ l.fn.code.items ++ out_code l.fn.out
