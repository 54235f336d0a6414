use Rattle.std.proofs.Common.{ap, ◌∙◌}
use Rattle.snap_core.specs.Packets.{no_packets, with_packet, with_packets}
use Rattle.snap_core.proofs.PacketSets.{with_packets-push}
use Rattle.snap_core.proofs.copies.Copies.with.Goals as goal

pub returns : goal.returns
returns c =
    let k = c.args.packet in
    ap (with_packets no_packets) c.in_ok-push.ensures.items
    ∙ with_packets-push c.in_ok-all.all.items k
    ∙ ap (λ s. with_packet s k) c.in_ok-all.ensures
