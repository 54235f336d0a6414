use Rattle.std.proofs.Common.{◌≡◌, drop, is_none}
use Rattle.std.specs.List.{position_from}
use Rattle.snap_placement.specs.Answer.{missing, place_of}
use Rattle.snap_placement.specs.Texts.{entry_texts}
use Rattle.snap_placement.proofs.resolve.placed.Given as goal

abbrev pub invariant-loop-var : goal.invariant-loop-var
invariant-loop-var l = position_from (λ name. is_none (place_of (entry_texts l.entries) name)) l.var (drop l.var l.arrays) ≡ missing l.arrays (entry_texts l.entries)
