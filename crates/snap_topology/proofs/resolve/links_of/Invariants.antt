use Rattle.std.proofs.Common.{◌≡◌, ◌++◌, drop, find, map, flat_map}
use Rattle.snap_topology.specs.Answer.{is_unknown}
use Rattle.snap_topology.specs.Listing.{key_texts, pair_text}
use Rattle.snap_topology.specs.Spells.{numbered, ends}
use Rattle.snap_topology.proofs.resolve.links_of.Given as goal

-- the links so far, whose names are known, before those that are left
abbrev pub invariant-loop-link : goal.invariant-loop-link
invariant-loop-link l = record {
  all : l.pairs.items ++ map (numbered (key_texts l.numbers)) (map pair_text (drop l.link-index l.links)) ≡ map (numbered (key_texts l.numbers)) (map pair_text l.links);
  known : find (is_unknown (key_texts l.numbers)) (flat_map ends (map pair_text (drop l.link-index l.links))) ≡ find (is_unknown (key_texts l.numbers)) (flat_map ends (map pair_text l.links));
}
