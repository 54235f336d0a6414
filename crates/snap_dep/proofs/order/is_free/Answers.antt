use Rattle.std.proofs.Common.{◌∙◌, sym, subst, eqb-true, eq-eqb, IsTrue}
use Rattle.snap_core.specs.Arrays.{has}
use Rattle.snap_dep.proofs.Sets.{in_and, in_zero, no_members}
use Rattle.snap_dep.proofs.order.is_free.Goals as goal

pub returns-then-has_var : goal.returns-then-has_var
returns-then-has_var c = (
  λ h. record {
    inside = sym c.has_var.ensures ∙ c.if-has_var.true;
    free = λ s inside ne r. in_zero s (subst (λ x. IsTrue (has x s)) (eqb-true _ _ h) ((in_and _ _ s).1 (r, (c.without.ensures.set s).1 (inside, ne))));
  },
  λ f. eq-eqb _ _ (no_members _ (λ s h. let both = (in_and _ _ s).0 h in let other = (c.without.ensures.set s).0 both.1 in f.free s other.0 other.1 both.0)),
)
