use Rattle.std.proofs.Common.{◌≡◌, refl, subst}
use Rattle.std.proofs.lemmas.Result.{IfOk-weaker}
use Rattle.snap_rows.specs.Network.{Inject}
use Rattle.snap_net.specs.Shown.{Simulates, Nothing}
use Rattle.snap_order.specs.Shown.{SimulatesInOrder, NoTurn, OrderedNetView}
use Rattle.snap_order.proofs.Doing.{done_injected}
use Rattle.snap_order.proofs.net.OrderedNet.inject.Goals as goal

pub returns-clause-done : goal.returns-clause-done
returns-clause-done c =
    let v : OrderedNetView = record { net = c.self.inside.net; counts = c.self.inside.counts.items } in
    let new : OrderedNetView = record { net = c.inject.new.self; counts = c.self.inside.counts.items } in
    let e = Inject c.args.port c.args.packet in
    IfOk-weaker c.inject.result (λ number. (number ≡ v.net.injected) × Simulates v.net e new.net Nothing) (λ number. (number ≡ c.args.self.now.net.injected) × SimulatesInOrder c.args.self.now e new NoTurn)
    (λ number d. subst (λ (o : OrderedNetView). (number ≡ o.net.injected) × SimulatesInOrder o e new NoTurn) c.self.view_is (d.0, done_injected v new c.args.port c.args.packet d.1 refl)) c.inject.ensures.done
