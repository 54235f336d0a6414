use Rattle.std.proofs.Common.{[], ◌∷◌, map, refl, sym, ap, subst}
use Rattle.snap_rows.specs.declared.head.Sent.{Sent}
use Rattle.snap_rows.specs.Stepping.{IsSpread, lost_to, sent_to}
use Rattle.snap_net.proofs.Carried.{heard_nothing, heard_one, spread_sent_first}
use Rattle.snap_net.proofs.passing.part_one.Goals as goal

pub go_out-requires-clause-port : goal.go_out-requires-clause-port
go_out-requires-clause-port g c =
    let t = c.args.tables.now in
    let os = c.args.out.now ∷ [] in
    let k = c.args.packet.now in
    let after = c.apply_out.new.packet in
    spread_sent_first t os k c.in-Some.port after (subst (λ o. IsSpread t os k (sent_to o after) (lost_to o)) c.in-Some.is c.in_ok-goes.ensures.turned)

pub returns-in_ok-go_out-in-Some-clause-parts : goal.returns-in_ok-go_out-in-Some-clause-parts
returns-in_ok-go_out-in-Some-clause-parts g c =
    let t = c.args.tables.now in
    let os = c.args.out.now ∷ [] in
    let k = c.args.packet.now in
    let after = c.apply_out.new.packet in
    let x : Sent = record { port = c.in-Some.port; packet = after } in
    record {
      copies = x ∷ [];
      spread = subst (λ o. IsSpread t os k (sent_to o after) (lost_to o)) c.in-Some.is c.in_ok-goes.ensures.turned;
      sent_is = refl;
      heard = heard_one (g.W.Watch.saw t) c.args.number t c.args.at x c.args.watch.now c.go_out.new.self c.in_ok-go_out-in-Some.ensures;
    }

pub returns-in-None-clause-parts : goal.returns-in-None-clause-parts
returns-in-None-clause-parts g c =
    let t = c.args.tables.now in
    let os = c.args.out.now ∷ [] in
    let k = c.args.packet.now in
    let after = c.apply_out.new.packet in
    record {
      copies = [];
      spread = subst (λ o. IsSpread t os k (sent_to o after) (lost_to o)) c.in-None.is c.in_ok-goes.ensures.turned;
      sent_is = ap (map (λ (y : Sent). y.packet)) (sym c.new.ensures.items);
      heard = heard_nothing (g.W.Watch.saw t) c.args.number t c.args.at c.args.watch.now;
    }
