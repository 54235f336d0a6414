use Rattle.std.proofs.Common.{◌≡◌, ℕ, List}
use Rattle.std.specs.Prelude.{unwrap_or}
use Rattle.snap_core.specs.Cells.{cell}
use Rattle.snap_core.proofs.array.Array.reserve.Given as goal

-- no number has changed
abbrev pub invariant-loop-index : goal.invariant-loop-index
invariant-loop-index l = (q : List ℕ) → unwrap_or (cell l.self.0 q) 0 ≡ unwrap_or (cell l.fn.self.0 q) 0
