use Rattle.std.proofs.Common.{◌≡◌, drop}
use Rattle.snap_placement.specs.Answer.{no_variable}
use Rattle.snap_placement.specs.Texts.{entry_texts}
use Rattle.snap_placement.proofs.resolve.known.Given as goal

abbrev pub invariant-loop-name : goal.invariant-loop-name
invariant-loop-name l = no_variable l.arrays (entry_texts (drop l.name-index l.entries)) ≡ no_variable l.arrays (entry_texts l.entries)
