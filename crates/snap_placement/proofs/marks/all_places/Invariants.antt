use Rattle.std.proofs.Common.{◌≡◌, ◌≢◌, ◌<◌, ℕ, [], length, slice_index_or}
use Rattle.snap_placement.specs.DemandAnswer.{Lists}
use Rattle.snap_placement.specs.Marks.{GroupMarked}
use Rattle.snap_placement.proofs.marks.all_places.Given as goal

-- the variables so far may stand somewhere
abbrev pub invariant-loop-var : goal.invariant-loop-var
invariant-loop-var l = record {
  count : length l.all.items ≡ l.var;
  places : (v : ℕ) → v < l.var → Lists (GroupMarked l.groups l.marks v) l.count (slice_index_or l.all.items v []);
  some : (v : ℕ) → v < l.var → slice_index_or l.all.items v [] ≢ [];
}
