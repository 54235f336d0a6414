use Rattle.std.proofs.Common.{◌≡◌, ℕ, ◌<◌, false, get_or, take}
use Rattle.snap_report.specs.Cuts.{is_mark}
use Rattle.snap_report.proofs.guess.behind_name.Given as goal

-- so far the text is the name, and no byte ends it
abbrev pub invariant-loop-at : goal.invariant-loop-at
invariant-loop-at l = record {
  same : take l.at l.text ≡ take l.at l.name;
  none : (k : ℕ) → k < l.at → is_mark (get_or l.text k 0) ≡ false;
}
