use Rattle.std.proofs.Common.{◌≡◌, ◌<◌, ◌==◌, ℕ, drop, false, find, length, slice_index_or, take}
use Rattle.std.specs.List.{list_any}
use Rattle.snap_topology.specs.Answer.{is_unknown}
use Rattle.snap_topology.specs.Listing.{string_texts}
use Rattle.snap_topology.specs.Spells.{number_of}
use Rattle.snap_placement.specs.DemandListing.{key_texts}
use Rattle.snap_placement.proofs.marks.marked.Given as goal

-- the names so far are marked, and known
abbrev pub invariant-loop-name : goal.invariant-loop-name
invariant-loop-name l = record {
  count : length l.marks.items ≡ l.count;
  marks : (at : ℕ) → at < l.count → slice_index_or l.marks.items at false ≡ list_any (λ name. number_of (key_texts l.numbers.keys) name == at) (take l.name-index (string_texts l.names));
  known : find (is_unknown (key_texts l.numbers.keys)) (string_texts (drop l.name-index l.names)) ≡ find (is_unknown (key_texts l.numbers.keys)) (string_texts l.names);
}
