use Rattle.std.proofs.Common.{◌<◌, sym, subst}
use Rattle.snap_topology.specs.Tables.{switch_count}
use Rattle.snap_make.specs.Demands.{Settles}
use Rattle.snap_make.specs.Marks.{IsBehind, IsOnWalk, MarksWays}
use Rattle.snap_faithful.specs.OnDemand.{place_of}
use Rattle.snap_make.proofs.Walking.{place_low}
use Rattle.snap_make.proofs.Settling.{place_routed, settled_still, state_settled}
use Rattle.snap_make.proofs.demands.settled.Goals as goal

pub ways-requires-clause-target : goal.ways-requires-clause-target
ways-requires-clause-target c = subst (λ x. x < switch_count c.args.routes.now) (sym c.place-target.ensures) (place_routed c.args.tables.now c.args.routes.now c.requires.setting c.var_of.result)

pub returns-in-State : goal.returns-in-State
returns-in-State c =
    rw c.in-State.is
    (subst (λ v. Settles c.args.routes.now (IsBehind c.args.routes.now (place_of c.args.tables.now v)) c.args.here c.ways.result) c.var_of.ensures
    (state_settled c.args.tables.now c.args.routes.now c.requires.setting (place_of c.args.tables.now c.var_of.result) (place_low c.args.tables.now c.args.routes.now c.requires.setting c.var_of.result) c.args.here c.ways.result
    (subst (λ x. MarksWays c.args.routes.now x c.args.here c.ways.result) c.place-target.ensures c.ways.ensures)))

pub returns-in-Last : goal.returns-in-Last
returns-in-Last c =
    rw c.in-Last.is
    (subst (λ us. Settles c.args.routes.now (λ w v. IsOnWalk c.args.routes.now (place_of c.args.tables.now) w us v) c.args.here c.through_leaf.result) c.items.ensures c.through_leaf.ensures)

pub returns-in-Field : goal.returns-in-Field
returns-in-Field c = rw c.in-Field.is (settled_still c.args.routes.now (λ w v. ⊥) (λ w v h. h) c.args.here)

pub returns-in-Go : goal.returns-in-Go
returns-in-Go c = rw c.in-Go.is (settled_still c.args.routes.now (λ w v. ⊥) (λ w v h. h) c.args.here)

pub returns-in-Leaf : goal.returns-in-Leaf
returns-in-Leaf c = rw c.in-Leaf.is (settled_still c.args.routes.now (λ w v. ⊥) (λ w v h. h) c.args.here)

pub returns-in-Stop : goal.returns-in-Stop
returns-in-Stop c = rw c.in-Stop.is (settled_still c.args.routes.now (λ w v. ⊥) (λ w v h. h) c.args.here)
