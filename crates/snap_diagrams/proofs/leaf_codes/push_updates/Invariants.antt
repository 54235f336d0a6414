-- What is pushed so far and what is left are the code.
use Rattle.std.proofs.Common.{◌≡◌, ◌++◌, drop}
use Rattle.snap_diagrams.specs.LeafCodes.{ups_code}
use Rattle.snap_diagrams.proofs.leaf_codes.push_updates.Given as goal

abbrev pub invariant-loop-update : goal.invariant-loop-update
invariant-loop-update l = l.code.items ++ ups_code (drop l.update-index l.updates) ≡ l.fn.code.items ++ ups_code l.fn.updates
