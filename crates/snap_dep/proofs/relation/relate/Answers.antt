use Rattle.std.proofs.Common.{◌≡◌, ◌<◌, true, false, length, sym, ◌∙◌, arith}
use Rattle.std.proofs.lemmas.Bool.{false≢true}
use Rattle.std.proofs.lemmas.List.{set-get_or}
use Rattle.snap_core.specs.Arrays.{has}
use Rattle.snap_dep.proofs.Rows.{write, skip}
use Rattle.snap_dep.proofs.relation.relate.Goals as goal
use Rattle.snap_dep.proofs.relation.relate.Goals.{then-has_var, else-has_var}

pub loop-var-preserved : goal.loop-var-preserved
loop-var-preserved c =
    elim c.if-has_var.branch [
      | then-has_var w ↦
          let inside : has c.args.to c.loop-var.var ≡ true = sym c.has_var.ensures ∙ w.if-has_var.true in
          let within : c.loop-var.var < length c.loop-var.rows = omega arith in
          rw w.rows-is (write _ _ _ _ c.loop-var.invariant c.args.from within (λ s. (λ h. (h, inside), λ h. h.0)))
      | else-has_var w ↦
          let outside : has c.args.to c.loop-var.var ≡ false = sym c.has_var.ensures ∙ w.if-has_var.false in
          rw (w.rows-is, set-get_or) (skip _ _ _ _ c.loop-var.invariant (λ s h. false≢true (sym outside ∙ h.1)))
    ]
