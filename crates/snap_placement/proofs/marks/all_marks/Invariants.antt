use Rattle.std.proofs.Common.{◌≡◌, ◌<◌, ℕ, [], drop, length, slice_index_or}
use Rattle.snap_placement.specs.DemandAnswer.{may, no_switch}
use Rattle.snap_placement.specs.DemandListing.{entry_texts, key_texts}
use Rattle.snap_placement.specs.Marks.{mark_at}
use Rattle.snap_placement.proofs.marks.all_marks.Given as goal

-- the arrays so far are marked where they may stand, and their names known
abbrev pub invariant-loop-name : goal.invariant-loop-name
invariant-loop-name l = record {
  count : length l.marks.items ≡ l.name-index;
  widths : (v : ℕ) → v < l.name-index → length (slice_index_or l.marks.items v []) ≡ l.count;
  marks : (v : ℕ) → v < l.name-index → (at : ℕ) → at < l.count → mark_at l.marks.items v at ≡ may (key_texts l.numbers.keys) (entry_texts l.entries) (slice_index_or l.arrays v []) at;
  known : no_switch (key_texts l.numbers.keys) (drop l.name-index l.arrays) (entry_texts l.entries) ≡ no_switch (key_texts l.numbers.keys) l.arrays (entry_texts l.entries);
}
