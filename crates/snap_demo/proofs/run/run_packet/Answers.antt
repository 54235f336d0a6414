use Rattle.snap_net.specs.Passing.{lost_in, sent_in}
use Rattle.snap_demo.proofs.Counted.{runs-on}
use Rattle.snap_demo.proofs.run.run_packet.Goals as goal

pub returns-clause-on : goal.returns-clause-on
returns-clause-on c =
    let k = c.pass.new.packet in
    runs-on c.args.port c.args.packet c.args.net.now c.pass.new.self (sent_in k c.in-Ok.passed) (lost_in c.in-Ok.passed) c.args.counts.now c.add.new.self
    c.requires.port c.pass.ensures.tables c.in-Ok.ensures.passes (c.in_ok-add.ensures.delivered k) c.in_ok-add.ensures.lost
