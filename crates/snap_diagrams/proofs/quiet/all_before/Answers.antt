-- One fact more.
use Rattle.snap_context.proofs.Walks.{all_behind}
use Rattle.snap_diagrams.specs.Quiet.{StandsBefore}
use Rattle.snap_diagrams.proofs.quiet.all_before.Goals as goal

pub loop-fact-preserved : goal.loop-fact-preserved
loop-fact-preserved c =
    all_behind (StandsBefore c.args.groups.now.ranks c.args.survey.now c.args.test.now) c.in-Some.fact.now c.loop-fact.fact-iterator.left.now c.next.new.self.left.now c.args.facts.now
    c.in-Some.ensures.steps (c.stands_before.ensures c.if-not-stands_before.false) c.loop-fact.invariant
