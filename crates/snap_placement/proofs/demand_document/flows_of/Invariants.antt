use Rattle.std.proofs.Common.{◌≡◌, ◌++◌, drop, option_map}
use Rattle.toml.specs.View.{items_view}
use Rattle.snap_placement.specs.DemandShape.{flows_listed}
use Rattle.snap_placement.proofs.demand_document.flows_of.Given as goal

-- the flows so far, before those of what is left
abbrev pub invariant-loop-item : goal.invariant-loop-item
invariant-loop-item l = flows_listed (items_view l.items) ≡ option_map (λ rest. l.flows.items ++ rest) (flows_listed (items_view (drop l.item-index l.items)))
