use Rattle.std.proofs.Common.{ap, subst}
use Rattle.snap_net.specs.Shown.{NetView, Holds, gathered}
use Rattle.snap_net.proofs.Gathering.{rehoused}
use Rattle.snap_net.proofs.net.Net.rehouse.Goals as goal

pub returns-clause-stores : goal.returns-clause-stores
returns-clause-stores c =
    let stores = c.move_arrays.new.new.items in
    let new : NetView = record { tables = c.args.tables; stores = stores; injected = c.self.inside.injected; flying = c.new.result } in
    rehoused c.args.tables c.args.self.now new
    (subst (λ (o : NetView). Holds c.args.tables stores (gathered o.tables o.stores)) c.self.view_is c.in_ok-move_arrays.ensures.holds)
    (ap (λ (o : NetView). o.injected) c.self.view_is)
    c.new.ensures
