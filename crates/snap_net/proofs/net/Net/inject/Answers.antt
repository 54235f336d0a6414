use Rattle.std.proofs.Common.{◌≡◌, ◌+◌, List, Some, length, refl, sym, subst, ◌∙◌}
use Rattle.snap_rows.specs.Entries.{port_at}
use Rattle.snap_rows.specs.Form.{comps}
use Rattle.snap_rows.specs.Network.{Inject}
use Rattle.snap_net.specs.declared.flying.Flying.{Flying}
use Rattle.snap_net.specs.Shown.{NetView, IsNetView, Simulates, Nothing}
use Rattle.snap_net.proofs.Steps.{held_fresh, done_fresh}
use Rattle.snap_net.proofs.net.Net.inject.Goals as goal

pub invariant_of-self-2 : goal.invariant_of-self-2
invariant_of-self-2 c =
    let v : NetView = record { tables = c.self.inside.tables; stores = c.self.inside.stores.items; injected = c.self.inside.injected; flying = c.self.inside.flying } in
    let at : port_at v.tables c.args.port ≡ Some c.in-Some.at = sym c.port_at.ensures ∙ c.in-Some.is in
    let long : length c.args.packet ≡ comps v.tables = c.requires.packet ∙ (λ i. comps (sym c.self.view_is i).tables) in
    subst (λ fl. IsNetView (record v { injected = v.injected + 1; flying = fl })) (sym c.in_ok-push.ensures.ok) (held_fresh v c.self.invariant c.args.port c.in-Some.at c.args.packet at long)

pub returns-clause-done : goal.returns-clause-done
returns-clause-done c =
    let v : NetView = record { tables = c.self.inside.tables; stores = c.self.inside.stores.items; injected = c.self.inside.injected; flying = c.self.inside.flying } in
    let at : port_at v.tables c.args.port ≡ Some c.in-Some.at = sym c.port_at.ensures ∙ c.in-Some.is in
    let new : List Flying → NetView = λ fl. record v { injected = v.injected + 1; flying = fl } in
    let done : Simulates v (Inject c.args.port c.args.packet) (new c.push.new.self) Nothing = subst (λ fl. Simulates v (Inject c.args.port c.args.packet) (new fl) Nothing) (sym c.in_ok-push.ensures.ok) (done_fresh v c.args.port c.in-Some.at c.args.packet at c.requires.port) in
    subst (λ (o : NetView). (v.injected ≡ o.injected) × Simulates o (Inject c.args.port c.args.packet) (new c.push.new.self) Nothing) c.self.view_is (refl, done)
