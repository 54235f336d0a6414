-- What is at one number keeps its order.
use Rattle.std.proofs.Common.{List, ◌++◌, rules, sym, subst}
use Rattle.std.specs.Ordering.{is_lt}
use Rattle.std.proofs.lemmas.List.Sorted.{answers_always}
use Rattle.snap_core.specs.declared.policy.Update.{Update}
use Rattle.snap_compose.specs.Fixed.{AreReordered, falling}
use Rattle.snap_compose.proofs.AtNumbers.{falling-order, run_sorted}
use Rattle.snap_compose.proofs.fixed.push_run.Goals as goal

pub returns-clause-reordered : goal.returns-clause-reordered
returns-clause-reordered c =
    let some : List Update = c.args.ordered.now.items in
    let run : List Update = c.args.run.now.items in
    subst (λ (us : List Update). AreReordered (some ++ run) us) (sym c.in_ok-append.ensures.items)
    (run_sorted some run c.sort_by.new.self.items c.in_ok-sort_by.ensures.permutation
    (c.in_ok-sort_by.ensures.stable (λ u v. is_lt (falling u v)) falling-order (answers_always _ _ _ (λ f a r g h. search rules))) c.requires)
