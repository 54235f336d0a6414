use Rattle.std.proofs.Common.{◌++◌, ◌≡◌}
use Rattle.std.specs.Vec.Iter.{into_iter_items}
use Rattle.snap_topology.specs.Listing.{string_texts, texts}
use Rattle.snap_topology.proofs.resolve.switches_of.Given as goal

-- the names so far, before those that are left
abbrev pub invariant-loop-name : goal.invariant-loop-name
invariant-loop-name l = l.switches.items ++ string_texts (into_iter_items l.name-iterator) ≡ texts l.fn.names
