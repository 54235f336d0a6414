use Rattle.std.proofs.Common.{length, sym, ap, ◌∙◌}
use Rattle.std.proofs.lemmas.Result.{IfOk-weaker}
use Rattle.std.proofs.lemmas.Simd.{map-map}
use Rattle.snap_rows.specs.Bodies.{placed}
use Rattle.snap_make.specs.Pairs.{at_switches, row_entry}
use Rattle.snap_make.specs.Shares.{shown, with_stop}
use Rattle.snap_make.proofs.Sharing.{as_many}
use Rattle.snap_make.proofs.tables.numbered_shares.Goals as goal

pub shares-requires-clause-wide : goal.shares-requires-clause-wide
shares-requires-clause-wide c =
    ap length c.deref.ensures.value ∙ c.in_ok-fronts.ensures.wide
    ∙ sym (as_many c.args.nodes.now c.args.numbering.now.ids.items c.args.numbering.now.numbers.items c.requires.numbered c.args.bodies.now c.requires.bodies)

pub returns-clause-rows : goal.returns-clause-rows
returns-clause-rows c =
    let bodies = c.args.bodies.now in
    let t = c.args.outline.now in
    IfOk-weaker c.shares.result _ _
    (λ r are. record {
      marks = c.in_ok-fronts.fronts.items;
      marked = c.in_ok-fronts.ensures;
      are = map-map row_entry (placed (with_stop bodies)) r.items ∙ are ∙ ap (λ marks. at_switches (shown t bodies marks) (length t.switches) (length bodies)) c.deref.ensures.value;
    })
    c.shares.ensures.rows
