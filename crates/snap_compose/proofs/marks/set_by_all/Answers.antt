-- One out more.
use Rattle.std.proofs.Common.{subst}
use Rattle.std.specs.List.{All}
use Rattle.std.proofs.lemmas.List.{take_all}
use Rattle.snap_compose.specs.Marks.{SetsAmong}
use Rattle.snap_compose.proofs.Marked.{out_more}
use Rattle.snap_compose.proofs.marks.set_by_all.Goals as goal

pub loop-out-preserved : goal.loop-out-preserved
loop-out-preserved c = out_more c.loop-out.set c.set_by-set.result c.args.outs.now c.loop-out.out-index c.out-item.result c.loop-out-test.true c.out-item.is c.loop-out.invariant c.set_by-set.ensures

pub returns : goal.returns
returns c = subst (All (SetsAmong c.loop-out.set)) (take_all c.loop-out.out-index c.args.outs.now c.loop-out-test.false) c.loop-out.invariant
