-- What is pushed so far and what is left are the code.
use Rattle.std.proofs.Common.{◌≡◌, ◌++◌, drop}
use Rattle.snap_diagrams.specs.Codes.{index_code}
use Rattle.snap_diagrams.proofs.codes.push_index.Given as goal

abbrev pub invariant-loop-atom : goal.invariant-loop-atom
invariant-loop-atom l = l.code.items ++ index_code (drop l.atom-index l.index) ≡ l.fn.code.items ++ index_code l.index
