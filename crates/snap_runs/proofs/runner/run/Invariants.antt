use Rattle.std.proofs.Common.{◌≤◌, ◌+◌, Bool, [], length}
use Rattle.snap_rows.specs.declared.tables.Tables.{Tables}
use Rattle.snap_runs.specs.Runner.{SoFar}
use Rattle.snap_runs.specs.Schedules.{lines_of}
use Rattle.snap_runs.proofs.runner.run.Given as goal

abbrev pub invariant-loop-line : goal.invariant-loop-line
invariant-loop-line g l =
    let p = g.P.Playable in
    record {
      so_far : (t : Tables) (hops : Bool) → p.plays t hops (p.begin t) [] l.fn.play → SoFar p.net p.leads p.begin p.plays p.left t hops (p.left l.fn.play) (lines_of l.schedule) l.rest l.number l.play;
      bound : l.number + length l.rest ≤ length l.schedule;
      count : p.count l.play ≤ l.number;
    }

abbrev pub decreases-loop-line : goal.decreases-loop-line
decreases-loop-line g l = length l.rest
