use Rattle.std.proofs.Common.{refl}
use Rattle.snap_order.specs.declared.play.OrderedPlay.{OrderedPlay}
use Rattle.snap_order.proofs.Playing.{plays_inject}
use Rattle.snap_order.proofs.play.OrderedPlayPlayable.inject.Goals as goal

pub returns-clause-injected : goal.returns-clause-injected
returns-clause-injected c =
    let v : OrderedPlay = record { alloc = c.args.self.now.alloc; net = c.inject.new.self; hops = c.args.self.now.hops; tallies = c.push.new.self; waiting = c.next_packet.new.waiting } in
    plays_inject c.args.self.now v c.in-Some.ready c.next_packet.new.waiting.items c.new-tally.result c.in-Some.ensures refl c.in-Ok.ensures.done.1 c.inject.ensures.tables refl c.in_ok-push.ensures.items c.new-tally.ensures.delivered c.new-tally.ensures.lost c.new-tally.ensures.hops
