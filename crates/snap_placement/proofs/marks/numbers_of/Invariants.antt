use Rattle.std.proofs.Common.{◌≡◌, ◌++◌, drop}
use Rattle.snap_placement.specs.DemandListing.{key_texts}
use Rattle.snap_placement.proofs.marks.numbers_of.Given as goal

-- the names so far, before those that are left
abbrev pub invariant-loop-switch : goal.invariant-loop-switch
invariant-loop-switch l = key_texts l.numbers.keys ++ drop l.switch-index l.switches ≡ l.switches
