use Rattle.std.proofs.Common.{◌≡◌, ◌++◌, drop}
use Rattle.snap_topology.specs.Answer.{first_repeat, repeat_after}
use Rattle.snap_topology.specs.Listing.{key_texts, string_texts}
use Rattle.snap_topology.proofs.resolve.numbers_of.Given as goal

-- the names so far, which differ, before those that are left
abbrev pub invariant-loop-name : goal.invariant-loop-name
invariant-loop-name l = record {
  all : key_texts l.numbers ++ string_texts (drop l.name-index l.names) ≡ string_texts l.names;
  different : repeat_after (key_texts l.numbers) (string_texts (drop l.name-index l.names)) ≡ first_repeat (string_texts l.names);
}
