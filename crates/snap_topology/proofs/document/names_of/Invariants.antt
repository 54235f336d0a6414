use Rattle.std.proofs.Common.{◌≡◌, ◌++◌, drop, option_map}
use Rattle.toml.specs.View.{items_view}
use Rattle.snap_topology.specs.Shape.{names_in}
use Rattle.snap_topology.specs.Listing.{texts}
use Rattle.snap_topology.proofs.document.names_of.Given as goal

-- the names so far, before those of what is left
abbrev pub invariant-loop-item : goal.invariant-loop-item
invariant-loop-item l = names_in (items_view l.items) ≡ option_map (λ rest. texts l.names ++ rest) (names_in (items_view (drop l.item-index l.items)))
