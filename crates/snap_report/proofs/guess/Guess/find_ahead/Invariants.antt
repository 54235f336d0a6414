use Rattle.std.proofs.Common.{◌≡◌, ◌+◌, ◌-◌, drop, length}
use Rattle.snap_core.specs.Fields.{count}
use Rattle.snap_report.specs.Guesses.{StandsAt}
use Rattle.snap_report.proofs.guess.Guess.find_ahead.Given as goal

-- the components before the place and those of the fields from it on are all
abbrev pub invariant-loop-place : goal.invariant-loop-place
invariant-loop-place l = record {
  stands : StandsAt l.fields l.self;
  comps : l.comp + count (drop l.place l.fields) ≡ count l.fields;
}

abbrev pub decreases-loop-place : goal.decreases-loop-place
decreases-loop-place l = length l.list - l.place
