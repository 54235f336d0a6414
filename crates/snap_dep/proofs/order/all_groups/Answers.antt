use Rattle.std.proofs.Common.{◌∙◌, length, sym, arith}
use Rattle.std.proofs.lemmas.Bool.{false≢true}
use Rattle.snap_dep.specs.Ranks.{IsGroup}
use Rattle.snap_dep.proofs.OrderLemmas.{set_more, set_same}
use Rattle.snap_dep.proofs.order.all_groups.Goals as goal
use Rattle.snap_dep.proofs.order.all_groups.Goals.{then-is_group, else-is_group}

pub loop-var-preserved : goal.loop-var-preserved
loop-var-preserved c = λ p same.
    elim c.if-is_group.branch [
      | then-is_group w ↦
          rw (w.groups-is, w.only-groups.ensures)
          (set_more (IsGroup p (length c.args.rows.now)) c.loop-var.groups c.loop-var.var (c.loop-var.invariant p same) ((c.is_group.ensures p same).0 w.if-is_group.true))
      | else-is_group w ↦
          rw w.groups-is
          (set_same (IsGroup p (length c.args.rows.now)) c.loop-var.groups c.loop-var.var (c.loop-var.invariant p same) (λ g. false≢true (sym w.if-is_group.false ∙ (c.is_group.ensures p same).1 g)))
    ]

pub returns : goal.returns
returns c = λ p same v.
    (λ h. ((c.loop-var.invariant p same v).0 h).1, λ g. (c.loop-var.invariant p same v).1 ((let l = g.below in omega (arith, l)), g))
