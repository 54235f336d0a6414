use Rattle.std.proofs.Common.{◌≡◌, drop}
use Rattle.snap_placement.specs.Answer.{place_of}
use Rattle.snap_placement.specs.Texts.{entry_texts}
use Rattle.snap_placement.proofs.resolve.place_of.Given as goal

abbrev pub invariant-loop-var : goal.invariant-loop-var
invariant-loop-var l = place_of (entry_texts (drop l.var-index l.entries)) l.name ≡ place_of (entry_texts l.entries) l.name
