use Rattle.std.proofs.Common.{[], ◌∙◌}
use Rattle.snap_net.proofs.Blocks.{one_replaced, at_spot}
use Rattle.snap_net.proofs.flights.remove_at.Goals as goal

pub returns-clause-copy : goal.returns-clause-copy
returns-clause-copy c = at_spot c.args.blocks.now.items c.args.spot c.index_mut.result.now c.requires c.index_mut.ensures.value ∙ c.remove-gone.ensures.copy

pub returns-clause-left : goal.returns-clause-left
returns-clause-left c = c.drop_empty.ensures ∙ one_replaced c.args.blocks.now.items c.args.spot c.index_mut.result.now c.remove-gone.new.self [] c.requires c.index_mut.ensures.value c.remove-gone.ensures.left
