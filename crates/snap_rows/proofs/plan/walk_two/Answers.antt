use Rattle.std.proofs.Common.{◌≡◌, ◌≢◌, Some, refl, sym, ap, ◌∙◌}
use Rattle.std.proofs.lemmas.Result.{IfOk-weaker}
use Rattle.snap_core.specs.Cells.{arrays_of}
use Rattle.snap_rows.specs.declared.head.Fate.TheVariants.{Fork}
use Rattle.snap_rows.specs.declared.head.Head.TheVariants.{Walk}
use Rattle.snap_rows.specs.Entries.{ranks}
use Rattle.snap_rows.specs.Handles.{is_field, enters_last}
use Rattle.snap_rows.specs.Stepping.{StepsBy, VisitsBy, walk}
use Rattle.snap_rows.proofs.Later.{enter_home, enter_last}
use Rattle.snap_rows.proofs.Plans.{bare_goes, last_outs_fit, way_end}
use Rattle.std.proofs.lemmas.Option.{same_Some}
use Rattle.snap_rows.proofs.Stepping.{forks_gone, steps_visited, unranked_before_none}
use Rattle.snap_rows.proofs.plan.walk_two.Goals as goal

pub last_outs-outs-requires : goal.last_outs-outs-requires
last_outs-outs-requires g c =
    let t = c.args.tables.now in
    let e = way_end t c.args.at c.args.packet.now is_field (arrays_of c.args.store.now) c.args.node c.enter_row-number.result.0 (c.enter_row-number.ensures.follows (arrays_of c.args.store.now)) in
    let last = enter_last t c.tables-known.ensures.valid c.tables-known.ensures.form c.requires.version c.args.at c.enter_row-number.result.0 e.0 e.1 e.2 (sym c.ranks.ensures ∙ c.if-ranks-eq0.true) in
    (last.0, last.1, same_Some _ _ (sym c.enter_row-number.ensures.row ∙ last.2))

pub returns-then-ranks-eq0 : goal.returns-then-ranks-eq0
returns-then-ranks-eq0 g c =
    let t = c.args.tables.now in
    let m = arrays_of c.args.store.now in
    let none : ranks t ≡ 0 = sym c.ranks.ensures ∙ c.if-ranks-eq0.true in
    let row = c.enter_row-number.ensures.row ∙ ap Some c.last_outs-outs.ensures.1 in
    let outs = c.last_outs-outs.result in
    forks_gone (unranked_before_none t c.args.at c.args.packet.now c.args.node none)
    (bare_goes t c.args.at c.args.packet.now m (Walk c.args.node) c.args.ups.now (Fork outs) _ c.requires.none refl (last_outs_fit t c.tables-known.ensures.form c.args.at c.enter_row-number.result.0 _ outs.now row)
    (enters_last c.requires.version none (c.enter_row-number.ensures.follows m) row))

pub visits-requires-clause-home : goal.visits-requires-clause-home
visits-requires-clause-home g c =
    let t = c.args.tables.now in
    let e = way_end t c.args.at c.args.packet.now is_field (arrays_of c.args.store.now) c.args.node c.enter_row-number.result.0 (c.enter_row-number.ensures.follows (arrays_of c.args.store.now)) in
    let some : ranks t ≢ 0 = λ e. c.if-ranks-eq0.false (c.ranks.ensures ∙ e) in
    (c.requires.version, enter_home t c.tables-known.ensures.valid c.tables-known.ensures.form c.requires.version c.args.at c.enter_row-number.result.0 e.0 e.1 e.2 some)

pub returns : goal.returns
returns g c =
    let t = c.args.tables.now in
    let k = c.args.packet.now in
    let m = arrays_of c.args.store.now in
    let may = g.A.Admit.admits c.args.admit.now in
    let some : ranks t ≢ 0 = λ e. c.if-ranks-eq0.false (c.ranks.ensures ∙ e) in
    IfOk-weaker _ (VisitsBy t c.args.at k may m 0 c.enter_row-number.result.0 c.visits.new.ups) (StepsBy t c.args.at k may m (Walk c.args.node) c.visits.new.ups)
    (λ f made. steps_visited c.tables-known.ensures.form c.requires.version (walk some (c.enter_row-number.ensures.follows m)) made) c.visits.ensures
