use Rattle.std.proofs.Common.{◌≡◌, ◌≤◌, ℕ, List, length}
use Rattle.std.specs.List.{IsDistinct}
use Rattle.std.specs.Map.{keys_of}
use Rattle.std.specs.Str.{bytes_eq}
use Rattle.snap_core.specs.Cells.{cell, cells_of, either}
use Rattle.snap_core.proofs.array.Array.take.Given as goal

-- the numbers that are left lie over those put so far
abbrev pub invariant-loop-index : goal.invariant-loop-index
invariant-loop-index l = record {
  room : length l.index-iterator ≤ l.self.1;
  distinct : IsDistinct bytes_eq (keys_of (cells_of l.index-iterator));
  cells : (q : List ℕ) → either (cell (cells_of l.index-iterator) q) (cell l.self.0 q) ≡ either (cell l.fn.patch q) (cell l.fn.self.0 q);
}
