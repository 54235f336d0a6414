use Rattle.snap_refinement.proofs.Short.{short_runs, short_plain}
use Rattle.snap_refinement.proofs.laws.runs_are_short.Goals as goal

pub returns : goal.returns
returns c = record { all = short_runs; plain = short_plain }
