use Rattle.std.proofs.Common.{◌≡◌, ◌+◌, ◌++◌, ◌∷◌, [], drop, length, refl, sym, ap, subst, ◌∙◌, append_assoc, append-nil}
use Rattle.std.specs.Prelude.{IsSome}
use Rattle.std.proofs.lemmas.List.{drop_all, drop_more}
use Rattle.std.proofs.lemmas.List.Elements.{All-get_or}
use Rattle.snap_rows.specs.declared.head.Sent.{Sent}
use Rattle.snap_rows.specs.Entries.{port_at}
use Rattle.snap_rows.specs.Form.{comps}
use Rattle.snap_net.specs.Passing.{GoOut}
use Rattle.snap_net.proofs.Carried.{go_first, go_last}
use Rattle.snap_net.proofs.passing.go_out_all.Goals as goal

pub go_out-requires-clause-port : goal.go_out-requires-clause-port
go_out-requires-clause-port g c =
    let P : Sent → Type 0 = λ (x : Sent). IsSome (port_at c.args.tables.now x.port) in
    let x = c.sent-item.result in
    subst P (sym c.sent-item.is) (All-get_or P c.args.copies.now c.loop-sent.sent-index x c.loop-sent-test.true c.requires.ports)

pub go_out-requires-clause-packet : goal.go_out-requires-clause-packet
go_out-requires-clause-packet g c =
    let P : Sent → Type 0 = λ (x : Sent). length x.packet ≡ comps c.args.tables.now in
    let x = c.sent-item.result in
    subst P (sym c.sent-item.is) (All-get_or P c.args.copies.now c.loop-sent.sent-index x c.loop-sent-test.true c.requires.packets)

pub loop-sent-init : goal.loop-sent-init
loop-sent-init g c = λ gs out. ([], gs, refl, out, λ first hs stands. subst (λ l. g.W.Watch.saw c.args.tables.now first l c.args.watch.now) (sym (append-nil hs)) stands)

pub loop-sent-preserved : goal.loop-sent-preserved
loop-sent-preserved g c = λ gs out.
    let t = c.args.tables.now in
    let saw = g.W.Watch.saw t in
    let xs = c.args.copies.now in
    let i = c.loop-sent.sent-index in
    let x = c.sent-item.result in
    let before = c.loop-sent.invariant gs out in
    let rest : drop i xs ≡ x ∷ drop (i + 1) xs = drop_more xs i x c.loop-sent-test.true ∙ ap (λ u. u ∷ drop (i + 1) xs) (sym c.sent-item.is) in
    let one = go_first x (drop (i + 1) xs) before.1 (subst (λ l. GoOut t c.args.number c.args.at l before.1) rest before.3) in (
      before.0 ++ one.2,
      one.3,
      before.2 ∙ ap (λ l. before.0 ++ l) one.8 ∙ sym (append_assoc before.0 one.2 one.3),
      one.7,
      λ first hs stands. subst (λ l. saw first l c.go_out.new.self) (append_assoc hs before.0 one.2) (c.in_ok-go_out.ensures one.0 one.1 one.2 one.4 one.5 one.6 first (hs ++ before.0) (before.4 first hs stands)),
    )

pub returns : goal.returns
returns g c = λ gs out first hs stands.
    let t = c.args.tables.now in
    let xs = c.args.copies.now in
    let all = c.loop-sent.invariant gs out in
    let none = go_last (subst (λ l. GoOut t c.args.number c.args.at l all.1) (drop_all c.loop-sent.sent-index xs c.loop-sent-test.false) all.3) in
    let same : gs ≡ all.0 = all.2 ∙ ap (λ l. all.0 ++ l) none ∙ append-nil all.0 in
    subst (λ l. g.W.Watch.saw t first (hs ++ l) c.loop-sent.watch) (sym same) (all.4 first hs stands)
