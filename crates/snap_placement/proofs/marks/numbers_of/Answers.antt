use Rattle.std.proofs.Common.{◌∙◌}
use Rattle.snap_placement.proofs.Marking.{names-more}
use Rattle.snap_placement.proofs.marks.numbers_of.Goals as goal

pub loop-switch-preserved : goal.loop-switch-preserved
loop-switch-preserved c =
    names-more c.args.switches.now c.loop-switch.numbers.keys c.insert.new.self.keys c.loop-switch.switch-index c.switch-item.result c.in_ok-from_slice.field-0 c.requires c.loop-switch.invariant c.loop-switch-test.true c.switch-item.is
    (c.in_ok-from_slice.ensures.items ∙ c.items.ensures) c.in_ok-insert.ensures.keys
