use Rattle.std.proofs.Common.{◌<◌, ◌++◌, ◌∷◌, [], length, get_or, subst, sym, arith, below_more}
use Rattle.std.proofs.lemmas.List.{get_or_append_left, get_or_push, length_push}
use Rattle.snap_dep.specs.Dependencies.{Tied}
use Rattle.snap_dep.proofs.order.ranks.Goals as goal

pub loop-var-preserved : goal.loop-var-preserved
loop-var-preserved c =
    rw c.in_ok-push.ensures.items (
      (let size = length_push c.loop-var.ranks.items c.rank_in.result in let long = c.loop-var.invariant.0 in omega (arith, size, long)),
      λ p below same ranked.
          below_more (λ v. (get_or (c.loop-var.ranks.items ++ c.rank_in.result ∷ []) v 0 < length c.args.order.now) × Tied p (get_or c.args.order.now (get_or (c.loop-var.ranks.items ++ c.rank_in.result ∷ []) v 0) 0) v) c.loop-var.var
          (λ v l. let long = c.loop-var.invariant.0 in
          subst (λ r. (r < length c.args.order.now) × Tied p (get_or c.args.order.now r 0) v) (sym (get_or_append_left c.loop-var.ranks.items (c.rank_in.result ∷ []) 0 v (omega (arith, l, long)))) (c.loop-var.invariant.1 p below same ranked v l))
          (subst (λ r. (r < length c.args.order.now) × Tied p (get_or c.args.order.now r 0) c.loop-var.var) (sym (get_or_push c.loop-var.ranks.items c.rank_in.result 0 c.loop-var.var c.loop-var.invariant.0)) (c.rank_in.ensures p below same ranked)),
    )

pub returns-clause-ranks : goal.returns-clause-ranks
returns-clause-ranks c = λ p below same ranked. record {
  below = λ v l. (c.loop-var.invariant.1 p below same ranked v (omega (arith, l))).0;
  group = λ v l. (c.loop-var.invariant.1 p below same ranked v (omega (arith, l))).1;
}
