use Rattle.std.proofs.Common.{◌≡◌, length, arith}
use Rattle.std.proofs.lemmas.Grind.{common_steps}
use Rattle.snap_net.proofs.Blocks.{emptied}
use Rattle.snap_net.proofs.flights.drop_empty.Goals as goal

pub returns-then-len-gt1 : goal.returns-then-len-gt1
returns-then-len-gt1 c =
    let empty : length c.index.result.now ≡ 0 = grind (arith, common_steps) in
    emptied c.args.blocks.now.items c.remove.new.self.items c.args.i c.index.result.now c.requires c.index.ensures empty c.remove.ensures.by_index.2
