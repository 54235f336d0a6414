-- What is added on the left, less what is on the right.
use Rattle.std.proofs.Common.{ap, ◌∙◌}
use Rattle.std.proofs.lemmas.Result.{IfOk-weaker}
use Rattle.snap_context.specs.Classes.{wrap}
use Rattle.snap_equal.specs.declared.tally.Direction.TheVariants.{Plus, Minus}
use Rattle.snap_equal.specs.Tally.{signed_total, total}
use Rattle.snap_equal.proofs.Adding.{difference_of, signed_total-minus, signed_total-plus, total_small}
use Rattle.snap_equal.proofs.tally.difference.Goals as goal

pub returns-clause-difference : goal.returns-clause-difference
returns-clause-difference c = IfOk-weaker c.nonzero.result _ _ (λ sums h. λ m k i q out.
    let left = c.args.left.now in let right = c.args.right.now in
    difference_of (total left k q) (total right k q) (signed_total Minus right k q) (total c.count.new.sums.items k q) (total sums.items k q) (total_small left k q)
    (c.in_ok-count.ensures.total m k i q out ∙ ap (λ us. wrap (total us k q) (signed_total Plus left k q)) c.new-sums.ensures.items ∙ ap (wrap 0) (signed_total-plus k q left))
    (h k q ∙ ap (λ us. total us k q) c.deref.ensures.value ∙ c.in_ok-count-2.ensures.total m k i q out)
    (signed_total-minus k q right)) c.nonzero.ensures.total
