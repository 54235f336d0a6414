use Rattle.std.proofs.lemmas.Result.{IfOk-weaker}
use Rattle.snap_core.specs.Arrays.{Arrays, updates}
use Rattle.snap_core.specs.Cells.{arrays_of}
use Rattle.snap_rows.specs.declared.head.Head.TheVariants.{Walk}
use Rattle.snap_rows.specs.Stepping.{GoesBy}
use Rattle.snap_rows.proofs.Stages.{asked}
use Rattle.snap_rows.proofs.Plans.{end_one}
use Rattle.snap_rows.proofs.plan.walk_one.Goals as goal

pub decided-requires-clause-row : goal.decided-requires-clause-row
decided-requires-clause-row c = end_one c.args.tables.now c.tables-known.ensures.form c.requires.version c.args.at c.args.packet.now (arrays_of c.args.store.now) c.args.node c.in_ok-number.number c.in_ok-number.ensures

pub returns : goal.returns
returns c =
    let t = c.args.tables.now in
    let k = c.args.packet.now in
    let m = arrays_of c.args.store.now in
    let v = c.in_ok-number.number in
    let us = c.decided.new.ups in
    IfOk-weaker _ (λ f. (m : Arrays) → GoesBy t c.args.at k m (Walk v) us f) (λ f. GoesBy t c.args.at k m (Walk c.args.node) us f)
    (λ f h. let g = h m in record {
      action = g.action;
      acts = g.acts;
      handles = asked t c.args.at k m (updates m us k) c.args.node v g.action c.requires.version c.in_ok-number.ensures g.handles;
      reads = g.reads;
      fits = g.fits;
    }) c.decided.ensures
