use Rattle.std.proofs.Common.{[], ◌∷◌, ap, sym, ◌∙◌}
use Rattle.snap_core.specs.Packets.{no_packets, union, with_packets}
use Rattle.snap_core.specs.Runs.{set_in}
use Rattle.snap_core.proofs.PacketSets.{union-turned, union-with_packets}
use Rattle.snap_core.proofs.copies.Copies.with_all.Goals as goal

pub returns-in_ok-push-in-One : goal.returns-in_ok-push-in-One
returns-in_ok-push-in-One c =
    let s = with_packets no_packets c.args.packets.items in
    ap (with_packets no_packets) c.in_ok-push-in-One.ensures.items
    ∙ sym (union-turned (c.in-One.packet ∷ []) c.args.packets.items)
    ∙ ap (λ x. union (set_in x) s) (sym c.in-One.is)

pub returns-in_ok-append-in-Many : goal.returns-in_ok-append-in-Many
returns-in_ok-append-in-Many c =
    let s = with_packets no_packets c.args.packets.items in
    ap (with_packets no_packets) c.in_ok-append-in-Many.ensures.items
    ∙ sym (union-turned c.in-Many.own.items c.args.packets.items)
    ∙ ap (λ x. union (set_in x) s) (sym c.in-Many.is)

pub returns-in_ok-append-in-Many-2 : goal.returns-in_ok-append-in-Many-2
returns-in_ok-append-in-Many-2 c =
    let s = with_packets no_packets c.args.packets.items in
    ap (with_packets no_packets) c.in_ok-append-in-Many-2.ensures.items
    ∙ sym (union-with_packets c.in-Many.own.items c.args.packets.items)
    ∙ ap (λ x. union (set_in x) s) (sym c.in-Many.is)
