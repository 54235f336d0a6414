use Rattle.std.proofs.Common.{◌∙◌, ℕ, Global, Vec, ap, refl}
use Rattle.snap_placement.specs.Marks.{GroupMarked}
use Rattle.snap_placement.proofs.Marking.{Lists-more, Lists-none, Lists-skip}
use Rattle.snap_placement.proofs.marks.places.Goals as goal
use Rattle.snap_placement.proofs.marks.places.Goals.{then-may_stand+in_ok-push, else-may_stand}

pub loop-at-init : goal.loop-at-init
loop-at-init c = Lists-none (GroupMarked c.args.groups.now c.args.marks.now c.args.var) c.new-places.result.items c.new-places.ensures.items

pub loop-at-preserved : goal.loop-at-preserved
loop-at-preserved c =
    let P = GroupMarked c.args.groups.now c.args.marks.now c.args.var in
    elim c.if-may_stand.branch [
      | then-may_stand+in_ok-push w ↦ Lists-more P c.loop-at.at _ c.loop-at.places.items c.if-may_stand.places.items (ap (λ (v : Vec ℕ Global). v.items) w.places-is ∙ w.in_ok-push.ensures.items) refl w.if-may_stand.ensures c.loop-at.invariant
      | else-may_stand w ↦ Lists-skip P c.loop-at.at c.loop-at.places.items c.if-may_stand.places.items (ap (λ (v : Vec ℕ Global). v.items) w.places-is) w.if-may_stand.ensures c.loop-at.invariant
    ]
