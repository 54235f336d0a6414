-- One part more.
use Rattle.std.proofs.Common.{subst, ◌∙◌}
use Rattle.std.proofs.lemmas.List.{take_all}
use Rattle.snap_compose.specs.Marks.{SetsAmong}
use Rattle.snap_compose.proofs.Marked.{part_more}
use Rattle.snap_compose.proofs.marks.set_by.Goals as goal

pub loop-part-preserved : goal.loop-part-preserved
loop-part-preserved c = part_more c.loop-part.set c.bit-set.result c.parts-part-items.result.now c.loop-part.part-index _ c.loop-part-test.true c.loop-part.invariant c.bit-set.ensures

pub returns : goal.returns
returns c = subst (SetsAmong c.loop-part.set) (take_all c.loop-part.part-index c.parts-part-items.result.now c.loop-part-test.false ∙ c.parts-part-items.ensures.list) c.loop-part.invariant
