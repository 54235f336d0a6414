use Rattle.std.proofs.Common.{◌≡◌, ◌++◌, option_map}
use Rattle.toml.specs.View.{members_view, table_view}
use Rattle.snap_placement.specs.DemandListing.{vec_texts}
use Rattle.snap_placement.specs.DemandShape.{entries_listed}
use Rattle.snap_placement.proofs.demand_document.entries_of.Given as goal

-- the entries so far, before those that are left
abbrev pub invariant-loop-key : goal.invariant-loop-key
invariant-loop-key l = option_map (λ rest. vec_texts l.entries ++ rest) (entries_listed (members_view l.key-iterator)) ≡ entries_listed (table_view l.table)
