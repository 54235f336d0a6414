use Rattle.std.proofs.Common.{◌≡◌, ◌+◌, [], Some, length, sym, ap, subst, ◌∙◌}
use Rattle.std.specs.List.{All}
use Rattle.snap_rows.specs.Entries.{port_at}
use Rattle.snap_rows.specs.Form.{comps}
use Rattle.snap_net.specs.Passing.{IsHeard, Passes, lost_in, sent_in}
use Rattle.snap_net.specs.Shown.{NetView}
use Rattle.snap_net.proofs.Carried.{passes}
use Rattle.snap_net.proofs.Steps.{fresh_home}
use Rattle.snap_net.proofs.net.Net.pass.Goals as goal

pub carry-requires-clause-from : goal.carry-requires-clause-from
carry-requires-clause-from g c =
    let v : NetView = record { tables = c.self.inside.tables; stores = c.self.inside.stores.items; injected = c.self.inside.injected; flying = c.self.inside.flying } in
    (fresh_home v c.self.invariant c.args.port c.in-Some.at (sym c.port_at.ensures ∙ c.in-Some.is)).0

pub carry-requires-clause-home : goal.carry-requires-clause-home
carry-requires-clause-home g c =
    let v : NetView = record { tables = c.self.inside.tables; stores = c.self.inside.stores.items; injected = c.self.inside.injected; flying = c.self.inside.flying } in
    (fresh_home v c.self.invariant c.args.port c.in-Some.at (sym c.port_at.ensures ∙ c.in-Some.is)).1

pub returns-clause-passes : goal.returns-clause-passes
returns-clause-passes g c =
    let v : NetView = record { tables = c.self.inside.tables; stores = c.self.inside.stores.items; injected = c.self.inside.injected; flying = c.self.inside.flying } in
    let saw = g.W.Watch.saw in
    let at : port_at v.tables c.args.port ≡ Some c.in-Some.at = sym c.port_at.ensures ∙ c.in-Some.is in
    let none : v.flying ≡ [] = ap (λ (o : NetView). o.flying) c.self.view_is ∙ c.requires.rests in
    let stores = c.carry.new.stores.items in
    let k = c.args.packet.now in
    let sent = sent_in c.carry.new.packet c.in_ok-passed.passed in
    let lost = lost_in c.in_ok-passed.passed in
    let a = c.args.watch.now in
    let b = c.carry.new.watch in
    let done = passes v none c.args.port c.in-Some.at k at c.requires.port stores (IsHeard (saw v.tables) v.injected a b sent lost) c.in_ok-passed.ensures.comes in
    subst (λ (o : NetView). Passes c.args.port k o (record v { stores = stores; injected = v.injected + 1 }) (IsHeard (saw o.tables) o.injected a b sent lost)) c.self.view_is done

pub returns-clause-sent : goal.returns-clause-sent
returns-clause-sent g c = subst (λ (o : NetView). All (λ l. length l ≡ comps o.tables) (sent_in c.carry.new.packet c.in_ok-passed.passed)) c.self.view_is c.in_ok-passed.ensures.sent
