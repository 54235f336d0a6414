use Rattle.std.proofs.Common.{◌≡◌, List, length, refl, sym, subst, ◌∙◌}
use Rattle.std.specs.Prelude.{IsSome}
use Rattle.std.specs.List.{All}
use Rattle.snap_rows.specs.declared.head.Sent.{Sent}
use Rattle.snap_rows.specs.Entries.{port_at}
use Rattle.snap_rows.specs.Form.{comps}
use Rattle.snap_rows.specs.Network.{Happening}
use Rattle.snap_net.specs.Passing.{GoOut}
use Rattle.snap_net.specs.Travels.{Hears}
use Rattle.snap_net.proofs.Carried.{spread_sent}
use Rattle.snap_net.proofs.passing.part_all.Goals as goal

pub go_out_all-requires-clause-ports : goal.go_out_all-requires-clause-ports
go_out_all-requires-clause-ports g c =
    let t = c.args.tables.now in
    let sent = spread_sent t c.args.outs.now c.args.packet.now c.in_ok-spread.spread.copies.items c.in_ok-spread.spread.lost c.in_ok-spread.ensures in
    subst (All (λ (x : Sent). IsSome (port_at t x.port))) (sym c.deref.ensures.value) (λ j d within. (sent j d within).port)

pub go_out_all-requires-clause-packets : goal.go_out_all-requires-clause-packets
go_out_all-requires-clause-packets g c =
    let t = c.args.tables.now in
    let sent = spread_sent t c.args.outs.now c.args.packet.now c.in_ok-spread.spread.copies.items c.in_ok-spread.spread.lost c.in_ok-spread.ensures in
    subst (All (λ (x : Sent). length x.packet ≡ comps t)) (sym c.deref.ensures.value) (λ j d within. (sent j d within).long ∙ c.requires.packet)

pub returns : goal.returns
returns g c =
    let t = c.args.tables.now in
    let saw = g.W.Watch.saw t in
    record {
      copies = c.in_ok-spread.spread.copies.items;
      spread = c.in_ok-spread.ensures;
      sent_is = refl;
      heard = subst (λ xs. (gs : List Happening) → GoOut t c.args.number c.args.at xs gs → Hears saw c.args.watch.now c.go_out_all.new.watch gs) c.deref.ensures.value c.in_ok-go_out_all.ensures;
    }
