use Rattle.std.proofs.Common.{◌<◌}
use Rattle.snap_rows.specs.Form.{switch_count}
use Rattle.snap_rows.specs.Reach.{Reaches}
use Rattle.snap_rows.proofs.Leading.{IsLeft}
use Rattle.snap_rows.proofs.rules.loops.reaches.Given as goal

abbrev pub invariant-loop-step : goal.invariant-loop-step
invariant-loop-step l = record {
  low : l.here < switch_count l.tables;
  back : Reaches l.tables l.target l.here → Reaches l.tables l.target l.from;
  forth : Reaches l.tables l.target l.from → Reaches l.tables l.target l.here;
  left : IsLeft l.tables l.target l.here l.step;
}
