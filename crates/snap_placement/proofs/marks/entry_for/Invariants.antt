use Rattle.std.proofs.Common.{◌≡◌, drop}
use Rattle.snap_placement.specs.DemandAnswer.{entry_for}
use Rattle.snap_placement.specs.DemandListing.{entry_texts}
use Rattle.snap_placement.proofs.marks.entry_for.Given as goal

abbrev pub invariant-loop-entry : goal.invariant-loop-entry
invariant-loop-entry l = entry_for (entry_texts (drop l.entry-index l.entries)) l.name ≡ entry_for (entry_texts l.entries) l.name
