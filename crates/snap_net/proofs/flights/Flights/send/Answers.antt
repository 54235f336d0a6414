use Rattle.std.proofs.Common.{◌≡◌, ◌<◌, length, sym, ap, subst, ◌∙◌}
use Rattle.snap_net.specs.declared.flying.Flying.{Flying}
use Rattle.snap_net.specs.Flights.{joined}
use Rattle.snap_net.specs.Spots.{number_at}
use Rattle.snap_net.proofs.Blocks.{sent_length}
use Rattle.snap_net.proofs.flights.Flights.send.Goals as goal

pub invariant_of-self : goal.invariant_of-self
invariant_of-self c =
    let bs = c.self.inside.blocks.items in
    let spot = c.spot_of-spot.result in
    let number : number_at bs spot ≡ c.args.k = ap (λ l. number_at l spot) (sym c.deref.ensures.value) ∙ c.spot_of-spot.ensures.number in
    let within : c.args.k < length (joined bs) = subst (λ (l : _). c.args.k < length l) (sym c.self.view_is) c.requires in
    c.self.invariant
    ∙ sym (sent_length (joined bs) (joined c.send_at.new.blocks.items) (number_at bs spot) (λ (y : Flying). record { number = y.number; at = c.args.to; head = c.args.head; packet = y.packet }) (subst (λ k. k < length (joined bs)) (sym number) within) c.send_at.ensures)
