use Rattle.std.proofs.Common.{◌≡◌, ◌++◌, drop, option_map}
use Rattle.toml.specs.View.{items_view}
use Rattle.snap_topology.specs.Shape.{links_listed}
use Rattle.snap_topology.specs.Listing.{pair_texts}
use Rattle.snap_topology.proofs.document.links_of.Given as goal

-- the links so far, before those of what is left
abbrev pub invariant-loop-item : goal.invariant-loop-item
invariant-loop-item l = links_listed (items_view l.items) ≡ option_map (λ rest. pair_texts l.links ++ rest) (links_listed (items_view (drop l.item-index l.items)))
