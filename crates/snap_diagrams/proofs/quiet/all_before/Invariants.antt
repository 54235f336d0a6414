-- If those left are so, all are.
use Rattle.std.specs.List.{All}
use Rattle.snap_diagrams.specs.Quiet.{StandsBefore}
use Rattle.snap_diagrams.proofs.quiet.all_before.Given as goal

abbrev pub invariant-loop-fact : goal.invariant-loop-fact
invariant-loop-fact l =
    All (StandsBefore l.groups.ranks l.survey l.test) l.fact-iterator.left.now → All (StandsBefore l.groups.ranks l.survey l.test) l.facts
