use Rattle.std.proofs.Common.{◌≡◌, ◌<◌, true, false, length, get_or, sym, ap, ◌∙◌, arith}
use Rattle.std.proofs.lemmas.Bool.{false≢true}
use Rattle.std.proofs.lemmas.List.{set-get_or}
use Rattle.snap_core.specs.Arrays.{has}
use Rattle.snap_dep.proofs.Rows.{write, skip}
use Rattle.snap_dep.proofs.relation.lead_through.Goals as goal
use Rattle.snap_dep.proofs.relation.lead_through.Goals.{then-has_var, else-has_var}

pub loop-row-preserved : goal.loop-row-preserved
loop-row-preserved c =
    let row : get_or c.loop-row.rows c.loop-row.row-index 0 ≡ get_or c.args.rows.now c.loop-row.row-index 0 = c.loop-row.invariant.rest c.loop-row.row-index (omega arith) in
    elim c.if-has_var.branch [
      | then-has_var w ↦
          let inside : has (get_or c.args.rows.now c.loop-row.row-index 0) c.args.var ≡ true = ap (λ r. has r c.args.var) (sym row) ∙ sym c.has_var.ensures ∙ w.if-has_var.true in
          let within : c.loop-row.row-index < length c.loop-row.rows = omega arith in
          rw w.rows-is (write _ _ _ _ c.loop-row.invariant (get_or c.args.rows.now c.args.var 0) within (λ s. (λ h. (h, inside), λ h. h.0)))
      | else-has_var w ↦
          let outside : has (get_or c.args.rows.now c.loop-row.row-index 0) c.args.var ≡ false = ap (λ r. has r c.args.var) (sym row) ∙ sym c.has_var.ensures ∙ w.if-has_var.false in
          rw (w.rows-is, set-get_or) (skip _ _ _ _ c.loop-row.invariant (λ s h. false≢true (sym outside ∙ h.1)))
    ]
