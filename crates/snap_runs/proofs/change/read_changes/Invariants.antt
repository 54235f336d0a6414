-- What the lines so far say stands before the others.
use Rattle.std.proofs.Common.{◌≡◌, ◌≤◌, ◌+◌, length}
use Rattle.snap_runs.specs.Schedules.{lines_of}
use Rattle.snap_runs.specs.ChangeLines.{changes_of}
use Rattle.snap_runs.specs.Moving.{read_on}
use Rattle.snap_runs.proofs.change.read_changes.Given as goal

abbrev pub invariant-loop-line : goal.invariant-loop-line
invariant-loop-line l = record {
  reads : changes_of l.text ≡ read_on l.read (lines_of l.rest);
  bound : l.read.lines + length l.rest ≤ length l.text;
}

abbrev pub decreases-loop-line : goal.decreases-loop-line
decreases-loop-line l = length l.rest
