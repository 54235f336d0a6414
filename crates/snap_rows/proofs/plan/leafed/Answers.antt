use Rattle.std.proofs.Common.{◌<◌, length, refl, arith}
use Rattle.std.proofs.lemmas.Result.{IfOk-weaker}
use Rattle.snap_core.specs.Arrays.{Arrays, updates}
use Rattle.snap_rows.specs.declared.head.Fate.TheVariants.{Fork}
use Rattle.snap_rows.specs.declared.head.Head.TheVariants.{Walk, Stage as AtStage}
use Rattle.snap_rows.specs.Stepping.{GoesBy}
use Rattle.snap_rows.proofs.Stages.{forks_bare, begins_some}
use Rattle.snap_rows.proofs.Plans.{bare_goes, leaf_outs_fit}
use Rattle.snap_rows.proofs.plan.leafed.Goals as goal

pub returns-then-stages-eq0 : goal.returns-then-stages-eq0
returns-then-stages-eq0 c = λ m.
    let t = c.args.tables.now in
    let k = c.args.packet.now in
    bare_goes t c.args.at k m (Walk c.args.leaf) c.args.ups.now (Fork c.args.outs) _ c.requires.none refl (leaf_outs_fit t c.requires.form c.args.at c.args.leaf c.args.stages.now c.args.outs.now c.requires.row)
    (forks_bare t c.args.at k m c.args.leaf c.args.stages.now c.args.outs.now c.requires.row c.if-stages-eq0.true)

pub returns : goal.returns
returns c =
    let t = c.args.tables.now in
    let k = c.args.packet.now in
    let us = c.staged.new.ups in
    let some : 0 < length c.args.stages.now = let e = c.if-stages-eq0.false in omega arith in
    IfOk-weaker _ (λ f. (m : Arrays) → GoesBy t c.args.at k m (AtStage c.args.leaf 0) us f) (λ f. (m : Arrays) → GoesBy t c.args.at k m (Walk c.args.leaf) us f)
    (λ f h m. let g = h m in record {
      action = g.action;
      acts = g.acts;
      handles = begins_some t c.args.at k m (updates m us k) c.args.leaf g.action c.args.stages.now c.args.outs.now c.requires.row some g.handles;
      reads = g.reads;
      fits = g.fits;
    }) c.staged.ensures
