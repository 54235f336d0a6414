use Rattle.std.proofs.Common.{subst}
use Rattle.std.specs.List.{All}
use Rattle.std.proofs.lemmas.List.{take_all}
use Rattle.std.proofs.lemmas.List.Elements.{All-more}
use Rattle.snap_core.specs.Ranges.{OutInRange}
use Rattle.snap_core.proofs.bits.know_outs.Goals as goal

pub loop-out-preserved : goal.loop-out-preserved
loop-out-preserved c = All-more OutInRange c.args.outs.now c.loop-out.out-index c.out-item.result c.loop-out-test.true c.loop-out.invariant (subst OutInRange c.out-item.is (subst OutInRange c.parts.ensures.list c.know_parts.ensures))

pub returns : goal.returns
returns c = subst (All OutInRange) (take_all c.loop-out.out-index c.args.outs.now c.loop-out-test.false) c.loop-out.invariant
