use Rattle.std.proofs.Common.{◌≡◌, drop}
use Rattle.snap_placement.specs.DemandAnswer.{no_variable}
use Rattle.snap_placement.specs.DemandListing.{entry_texts}
use Rattle.snap_placement.proofs.demand_resolve.known_names.Given as goal

abbrev pub invariant-loop-entry : goal.invariant-loop-entry
invariant-loop-entry l = no_variable l.arrays (entry_texts (drop l.entry-index l.entries)) ≡ no_variable l.arrays (entry_texts l.entries)
