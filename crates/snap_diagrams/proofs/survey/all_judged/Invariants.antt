-- The arrays so far are judged.
use Rattle.std.specs.List.{All}
use Rattle.snap_diagrams.specs.Quiet.{SeenClear}
use Rattle.snap_diagrams.proofs.survey.all_judged.Given as goal

abbrev pub invariant-loop-seen : goal.invariant-loop-seen
invariant-loop-seen l = All (SeenClear l.values) l.all.items
