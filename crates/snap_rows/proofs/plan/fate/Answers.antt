use Rattle.std.proofs.Common.{◌≡◌, sym, ap, subst, ◌∙◌}
use Rattle.std.specs.Prelude.{IfOk}
use Rattle.std.proofs.lemmas.Result.{IfOk-weaker}
use Rattle.snap_core.specs.Arrays.{Arrays}
use Rattle.snap_core.specs.Cells.{arrays_of}
use Rattle.snap_rows.specs.declared.head.Head.TheVariants.{Walk, Stage, Out, Visit}
use Rattle.snap_rows.specs.declared.tables.Tables.{Tables}
use Rattle.snap_rows.specs.Home.{AtHome}
use Rattle.snap_rows.specs.Stepping.{GoesBy, StepsBy, VisitsBy, visit}
use Rattle.snap_rows.proofs.Stepping.{one_before_none, out_before_none, steps_gone, steps_visited}
use Rattle.snap_rows.proofs.plan.fate.Goals as goal

pub returns-then-tables-eq1 : goal.returns-then-tables-eq1
returns-then-tables-eq1 g c =
    let t = c.args.tables.now in
    let k = c.args.packet.now in
    let m = arrays_of c.args.store.now in
    let may = g.A.Admit.admits c.args.admit.now in
    let us = c.walk_one.new.ups in
    let head = Walk c.in-Walk.node in
    let one : t.version ≡ 1 = ap (λ (t : Tables). t.version) (sym c.tables.ensures.tables) ∙ c.if-tables-eq1.true in
    subst (λ h. IfOk c.walk_one.result (StepsBy t c.args.at k may m h us)) (sym c.in-Walk.is)
    (IfOk-weaker _ (GoesBy t c.args.at k m head us) (StepsBy t c.args.at k may m head us)
    (λ f made. steps_gone c.tables-known.ensures.valid c.tables-known.ensures.form c.requires.at (subst (AtHome t c.args.at) c.in-Walk.is c.requires.home) (one_before_none t c.args.at k head one) made) c.walk_one.ensures)

pub returns-in-Stage : goal.returns-in-Stage
returns-in-Stage g c =
    let t = c.args.tables.now in
    let k = c.args.packet.now in
    let m = arrays_of c.args.store.now in
    let may = g.A.Admit.admits c.args.admit.now in
    let us = c.at_stage.new.ups in
    let head = Stage c.in-Stage.leaf c.in-Stage.stage in
    let home : AtHome t c.args.at head = subst (AtHome t c.args.at) c.in-Stage.is c.requires.home in
    subst (λ h. IfOk c.at_stage.result (StepsBy t c.args.at k may m h us)) (sym c.in-Stage.is)
    (IfOk-weaker _ (λ f. (m : Arrays) → GoesBy t c.args.at k m head us f) (StepsBy t c.args.at k may m head us)
    (λ f made. steps_gone c.tables-known.ensures.valid c.tables-known.ensures.form c.requires.at home (one_before_none t c.args.at k head home.0) (made m)) c.at_stage.ensures)

pub returns-in-Out : goal.returns-in-Out
returns-in-Out g c =
    let t = c.args.tables.now in
    let k = c.args.packet.now in
    let m = arrays_of c.args.store.now in
    let may = g.A.Admit.admits c.args.admit.now in
    let us = c.args.ups.now in
    let head = Out c.in-Out.port in
    subst (λ h. StepsBy t c.args.at k may m h us c.to_port.result) (sym c.in-Out.is)
    (subst (λ us. StepsBy t c.args.at k may m head us c.to_port.result) (sym c.requires.none)
    (steps_gone c.tables-known.ensures.valid c.tables-known.ensures.form c.requires.at (subst (AtHome t c.args.at) c.in-Out.is c.requires.home) (out_before_none t c.args.at k c.in-Out.port) (c.to_port.ensures k m)))

pub returns-in-Visit : goal.returns-in-Visit
returns-in-Visit g c =
    let t = c.args.tables.now in
    let k = c.args.packet.now in
    let m = arrays_of c.args.store.now in
    let may = g.A.Admit.admits c.args.admit.now in
    let us = c.visits.new.ups in
    let head = Visit c.in-Visit.rank c.in-Visit.node in
    let home : AtHome t c.args.at head = subst (AtHome t c.args.at) c.in-Visit.is c.requires.home in
    subst (λ h. IfOk c.visits.result (StepsBy t c.args.at k may m h us)) (sym c.in-Visit.is)
    (IfOk-weaker _ (VisitsBy t c.args.at k may m c.in-Visit.rank c.in-Visit.node us) (StepsBy t c.args.at k may m head us)
    (λ f made. steps_visited c.tables-known.ensures.form home.0 visit made) c.visits.ensures)
