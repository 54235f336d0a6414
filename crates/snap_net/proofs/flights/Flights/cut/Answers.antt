use Rattle.std.proofs.Common.{◌+◌, ◌<◌, [], length, ap, ◌∙◌, arith}
use Rattle.snap_net.specs.Flights.{spliced}
use Rattle.snap_net.proofs.Splices.{cut_more}
use Rattle.snap_net.proofs.flights.Flights.cut.Goals as goal

pub loop-i-preserved : goal.loop-i-preserved
loop-i-preserved c =
    let list = c.args.self.now in
    let within : c.args.from + c.loop-i.i < length list = omega (arith, c.requires, c.loop-i-test.true) in
    c.remove.ensures.left ∙ ap (λ l. spliced l c.args.from 1 []) c.loop-i.invariant ∙ cut_more list c.args.from c.loop-i.i within
