-- Additions do the same in any order.
use Rattle.std.proofs.Common.{List, subst}
use Rattle.std.specs.List.Sorted.{IsPermutation}
use Rattle.snap_core.specs.declared.policy.Update.{Update}
use Rattle.snap_compose.proofs.Adding.{same_total}
use Rattle.snap_compose.proofs.ordered.ordered.Goals as goal

pub returns-clause-same : goal.returns-clause-same
returns-clause-same c =
    same_total c.args.ups.now c.sort_by.new.self.items
    (subst (λ (us : List Update). IsPermutation us c.sort_by.new.self.items) c.in_ok-ordered.ensures c.in_ok-sort_by.ensures.permutation)
    (c.all_add.ensures c.if-not-all_add.false)
