use Rattle.std.proofs.Common.{◌≡◌, [], length, subst}
use Rattle.std.specs.List.{All}
use Rattle.std.proofs.lemmas.List.Elements.{All-cons, All-nil}
use Rattle.std.proofs.lemmas.Result.{IfOk-weaker}
use Rattle.snap_rows.specs.Form.{comps}
use Rattle.snap_rows.specs.Stepping.{FateFits}
use Rattle.snap_net.specs.Passing.{entering, lost_in, sent_in, FliesTo}
use Rattle.snap_net.proofs.Carried.{comes_delivered, comes_parted, parts_long}
use Rattle.snap_net.proofs.passing.carry.Goals as goal

pub part-requires-clause-at : goal.part-requires-clause-at
part-requires-clause-at g c = c.in_ok-end.ensures.ends.0

pub part-requires-clause-outs : goal.part-requires-clause-outs
part-requires-clause-outs g c = subst (FateFits c.args.tables.now c.in_ok-end.end.at) c.in-Fork.is c.in_ok-end.ensures.ends.2

pub returns-in-Fork-clause-comes : goal.returns-in-Fork-clause-comes
returns-in-Fork-clause-comes g c =
    let t = c.args.tables.now in
    let i = c.args.number in
    let k = c.args.packet.now in
    let saw = g.W.Watch.saw t in
    let w = c.in_ok-end.end.at in
    let old = c.args.stores.now.items in
    let new = c.fly.new.stores.items in
    let a = c.args.watch.now in
    let b = c.fly.new.watch in
    let d = c.part.new.watch in
    let after = c.part.new.packet in
    let lands = subst (λ f. FliesTo saw t (entering i c.args.from k) a b old new w f) c.in-Fork.is c.in_ok-end.ensures.lands in
    IfOk-weaker c.part.result _ _ (λ passed parts. comes_parted saw t c.tables-known.ensures.valid c.tables-known.ensures.form old new i c.args.from w k c.in-Fork.outs a b d (sent_in after passed) (lost_in passed) c.in_ok-end.ensures.ends.0 lands parts) c.part.ensures.parts

pub returns-in-Fork-clause-sent : goal.returns-in-Fork-clause-sent
returns-in-Fork-clause-sent g c =
    let t = c.args.tables.now in
    let k = c.args.packet.now in
    let after = c.part.new.packet in
    IfOk-weaker c.part.result _ _ (λ passed parts. subst (λ n. All (λ l. length l ≡ n) (sent_in after passed)) c.requires.packet
    (parts_long t c.args.number c.in_ok-end.end.at c.in-Fork.outs.now k (g.W.Watch.saw t) c.fly.new.watch c.part.new.watch (sent_in after passed) (lost_in passed) parts)) c.part.ensures.parts

pub returns-in-Deliver-clause-comes : goal.returns-in-Deliver-clause-comes
returns-in-Deliver-clause-comes g c =
    let t = c.args.tables.now in
    let i = c.args.number in
    let k = c.args.packet.now in
    let saw = g.W.Watch.saw t in
    let w = c.in_ok-end.end.at in
    let old = c.args.stores.now.items in
    let new = c.fly.new.stores.items in
    let a = c.args.watch.now in
    let b = c.fly.new.watch in
    comes_delivered saw t c.tables-known.ensures.valid c.tables-known.ensures.form old new i c.args.from w k _ a b (subst (λ f. FliesTo saw t (entering i c.args.from k) a b old new w f) c.in-Deliver.is c.in_ok-end.ensures.lands)

pub returns-in-Deliver-clause-sent : goal.returns-in-Deliver-clause-sent
returns-in-Deliver-clause-sent g c = let n = comps c.args.tables.now in All-cons (λ l. length l ≡ n) c.args.packet.now [] c.requires.packet (All-nil (λ l. length l ≡ n))
