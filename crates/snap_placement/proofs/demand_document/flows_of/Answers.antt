use Rattle.std.proofs.Common.{◌∙◌, sym}
use Rattle.snap_placement.proofs.Documents.{flows-turn}
use Rattle.snap_placement.proofs.demand_document.flows_of.Goals as goal

pub loop-item-preserved : goal.loop-item-preserved
loop-item-preserved c =
    flows-turn c.args.items.now c.loop-item.item-index c.item-item.result c.in-Some.flow c.loop-item.flows.items c.push.new.self.items _ c.loop-item-test.true c.item-item.is (sym c.in-Some.is ∙ c.flow_of.ensures) c.in_ok-push.ensures.items
    c.loop-item.invariant
