use Rattle.std.proofs.Common.{◌+◌, sym, subst, ◌∙◌}
use Rattle.snap_make.specs.Marks.{MarksSoFar}
use Rattle.snap_make.proofs.MarkWay.{so_far_start, so_far_on, so_far_off}
use Rattle.snap_make.proofs.ways.ways.Goals as goal
use Rattle.snap_make.proofs.ways.ways.Goals.{then-has, else-has}

pub loop-at-init : goal.loop-at-init
loop-at-init c = so_far_start c.args.routes.now c.args.target c.args.here

pub loop-at-preserved : goal.loop-at-preserved
loop-at-preserved c =
    elim c.if-has.branch [
      | then-has w ↦ subst (MarksSoFar c.args.routes.now c.args.target c.args.here (c.loop-at.at + 1)) (sym w.marks-is)
          (so_far_on c.args.routes.now c.args.target c.loop-at.at c.args.here c.loop-at.marks w.way-marks.result (sym c.has.ensures ∙ w.if-has.true) c.loop-at.invariant w.way-marks.ensures)
      | else-has w ↦ subst (MarksSoFar c.args.routes.now c.args.target c.args.here (c.loop-at.at + 1)) (sym w.marks-is)
          (so_far_off c.args.routes.now c.args.target c.loop-at.at c.args.here c.loop-at.marks (sym c.has.ensures ∙ w.if-has.false) c.loop-at.invariant)
    ]
