use Rattle.std.proofs.Common.{◌<◌, Result, Ok, Err, length, refl, sym, subst, ◌∙◌}
use Rattle.std.specs.Prelude.{OnErr}
use Rattle.snap_net.specs.Moves.{StepsAt}
use Rattle.snap_net.specs.Shown.{NetView, Same}
use Rattle.snap_net.proofs.Blocks.{found}
use Rattle.snap_net.proofs.Steps.{held_same}
use Rattle.snap_net.proofs.net.Net.step_admitted.Goals as goal

on_err : {X Y : Type 0} (r : Result X Y) (P : Type 0) → P → OnErr r P
on_err (Ok x) P p = tt
on_err (Err e) P p = p

pub invariant_of-self : goal.invariant_of-self
invariant_of-self g c =
    let v : NetView = record { tables = c.self.inside.tables; stores = c.self.inside.stores.items; injected = c.self.inside.injected; flying = c.self.inside.flying } in
    held_same v c.step_in.new.stores.items c.step_in.new.flying c.self.invariant c.in_err-told.ensures.err.0 c.in_err-told.ensures.err.1

pub returns-in_err-told-clause-refused : goal.returns-in_err-told-clause-refused
returns-in_err-told-clause-refused g c =
    let v : NetView = record { tables = c.self.inside.tables; stores = c.self.inside.stores.items; injected = c.self.inside.injected; flying = c.self.inside.flying } in
    let new : NetView = record v { stores = c.step_in.new.stores.items; flying = c.step_in.new.flying } in
    on_err c.from_residual.result (Same c.args.self.now new)
    (subst (λ (o : NetView). Same o new) c.self.view_is (record { tables = refl; stores = c.in_err-told.ensures.err.1; injected = refl; flying = c.in_err-told.ensures.err.0 }))

pub invariant_of-self-2 : goal.invariant_of-self-2
invariant_of-self-2 g c =
    let v : NetView = record { tables = c.self.inside.tables; stores = c.self.inside.stores.items; injected = c.self.inside.injected; flying = c.self.inside.flying } in
    let within : c.args.k < length v.flying = subst (λ (v : NetView). c.args.k < length v.flying) (sym c.self.view_is) c.requires in
    let x = found v.flying c.args.k within in
    let made = c.in_ok-told.ensures.made x.0 x.1 in
    let home = c.in_ok-told.ensures.homes in
    record {
      form = c.self.invariant.form;
      valid = c.self.invariant.valid;
      stores = made.changed.count ∙ c.self.invariant.stores;
      places = home.places;
      packets = home.packets;
      homes = home.homes;
    }

pub returns-clause-stepped : goal.returns-clause-stepped
returns-clause-stepped g c =
    let v : NetView = record { tables = c.self.inside.tables; stores = c.self.inside.stores.items; injected = c.self.inside.injected; flying = c.self.inside.flying } in
    let new : NetView = record v { stores = c.step_in.new.stores.items; flying = c.step_in.new.flying } in
    subst (λ (o : NetView). StepsAt (g.A.Admit.admits c.args.admit.now) o c.args.k new c.in_ok-told.told.moved) c.self.view_is c.in_ok-told.ensures.made
