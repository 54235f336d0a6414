use Rattle.std.proofs.Common.{◌≡◌, length, subst, sym, ap, ◌∙◌}
use Rattle.std.specs.List.{All}
use Rattle.snap_core.specs.Fields.{count}
use Rattle.snap_core.proofs.Lengths.{All-listed}
use Rattle.snap_report.proofs.report.put_block.Goals as goal

pub put_out-requires : goal.put_out-requires
put_out-requires c =
    let n = count c.args.fields.now in
    let long = subst (All (λ k. length k ≡ n)) (sym c.list-packet-items.ensures) (All-listed n c.args.packets.now c.requires) in
    ap length c.packet-item.is ∙ long c.loop-packet.packet-index c.packet-item.result c.loop-packet-test.true
