use Rattle.std.proofs.Common.{◌≡◌, ◌<◌, [], refl, ap, subst, arith, ◌∙◌}
use Rattle.std.proofs.lemmas.List.{get_or_default}
use Rattle.snap_core.specs.Cells.{arrays_of}
use Rattle.snap_rows.specs.Form.{switch_count}
use Rattle.snap_rows.specs.Stepping.{StepsBy}
use Rattle.snap_rows.proofs.Rows.{All-get}
use Rattle.snap_net.specs.declared.flying.Flying.{Flying}
use Rattle.snap_net.specs.Shown.{store_of}
use Rattle.snap_net.proofs.Steps.{frame_gone, home_left, step_made}
use Rattle.snap_net.proofs.moves.step_in.Goals as goal

pub returns-clause-made : goal.returns-clause-made
returns-clause-made g c =
    let t = c.args.tables.now in
    let may = g.A.Admit.admits c.args.admit.now in
    let old = c.args.stores.now.items in
    let from = c.args.flying.now in
    let x = c.get-copy.result.now in
    let us = c.fate.new.ups in
    let f = c.in_ok-fate.fate in
    let low : x.at < switch_count t = All-get (λ (y : Flying). y.at < switch_count t) from c.args.k x c.requires.places c.get-copy.ensures in
    let long = c.requires.stores in
    let here : arrays_of c.index.result.now ≡ store_of old x.at = ap arrays_of (c.index.ensures ∙ get_or_default old x.at _ [] (omega (arith, low, long))) in
    step_made may t c.args.k old from c.fulfil.new.stores.items c.fulfil.new.flying c.in_ok-moved.moved x us us f c.get-copy.ensures refl
    (subst (λ m. StepsBy t x.at x.packet may m x.head us f) here c.in_ok-fate.ensures) c.in_ok-moved.ensures.updated c.in_ok-moved.ensures.gone

pub returns-clause-homes : goal.returns-clause-homes
returns-clause-homes g c =
    let x = c.get-copy.result.now in
    home_left c.args.tables.now c.tables-known.ensures.form c.args.flying.now c.fulfil.new.flying c.args.k x c.in_ok-fate.fate c.get-copy.ensures c.requires.places c.requires.packets c.requires.homes c.in_ok-fate.ensures.arrives
    (c.in_ok-moved.ensures.gone x c.get-copy.ensures).0

pub returns-clause-frame : goal.returns-clause-frame
returns-clause-frame g c = λ framed.
    let x = c.get-copy.result.now in
    let gone = c.in_ok-moved.ensures.gone x c.get-copy.ensures in
    frame_gone c.args.tables.now c.args.flying.now c.fulfil.new.flying c.args.k x c.in_ok-fate.fate c.in_ok-moved.moved c.in_ok-frame.frame.items c.get-copy.ensures gone.0 gone.1 (c.in_ok-frame.ensures framed)
