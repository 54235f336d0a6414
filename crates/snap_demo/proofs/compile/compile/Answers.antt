use Rattle.std.proofs.Common.{sym, subst}
use Rattle.std.proofs.lemmas.Result.{IfOk-weaker}
use Rattle.snap_faithful.specs.Faithful.{Faithful}
use Rattle.snap_placement.specs.Answer.{GivesSwitches}
use Rattle.snap_topology.specs.Form.{IsWellFormed}
use Rattle.snap_demo.specs.Row.{stated_places, stated_topology}
use Rattle.snap_demo.proofs.Placed.{places_fit}
use Rattle.snap_demo.proofs.Row.{row_well_formed}
use Rattle.snap_demo.proofs.compile.compile.Goals as goal

pub tables-requires-clause-topology : goal.tables-requires-clause-topology
tables-requires-clause-topology c = subst IsWellFormed (sym c.in_ok-topology.ensures) (row_well_formed c.args.switches c.requires.some c.requires.few)

pub tables-requires-clause-placement : goal.tables-requires-clause-placement
tables-requires-clause-placement c =
    let p = c.args.program.now in
    subst (λ t. GivesSwitches p t c.in_ok-placement.placement) (sym c.in_ok-topology.ensures)
    (subst (GivesSwitches p (stated_topology c.args.switches)) (sym c.in_ok-placement.ensures) (places_fit c.args.switches p c.requires.some c.requires.stated c.requires.apart))

pub returns : goal.returns
returns c =
    let p = c.args.program.now in
    let n = c.args.switches in
    IfOk-weaker c.tables.result _ (Faithful p (stated_topology n) (stated_places n))
    (λ t made. subst (λ l. Faithful p (stated_topology n) l t) c.in_ok-placement.ensures (subst (λ y. Faithful p y c.in_ok-placement.placement t) c.in_ok-topology.ensures made.0)) c.tables.ensures
