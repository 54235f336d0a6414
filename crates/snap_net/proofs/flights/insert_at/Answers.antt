use Rattle.std.proofs.lemmas.Result.{on_ok_weaker}
use Rattle.snap_net.proofs.Blocks.{inserted}
use Rattle.snap_net.proofs.flights.insert_at.Goals as goal

pub returns-clause-ok : goal.returns-clause-ok
returns-clause-ok c = on_ok_weaker c.insert_behind.result (inserted c.args.blocks.now.items c.args.spot c.index_mut.result.now c.insert_behind.new.self c.args.copy c.requires c.index_mut.ensures.value) c.insert_behind.ensures.ok
