use Rattle.std.proofs.Common.{[], ◌∷◌, sym, ◌∙◌}
use Rattle.snap_net.proofs.Blocks.{one_replaced, at_spot}
use Rattle.snap_net.proofs.flights.send_at.Goals as goal

pub returns : goal.returns
returns c = λ y is.
    let bs = c.args.blocks.now.items in
    let x = c.index_mut.result.now in
    one_replaced bs c.args.spot x c.send.new.self (record { number = y.number; at = c.args.to; head = c.args.head; packet = y.packet } ∷ []) c.requires c.index_mut.ensures.value
    (c.send.ensures y (sym (at_spot bs c.args.spot x c.requires c.index_mut.ensures.value) ∙ is))
