use Rattle.std.proofs.Common.{is_lt, rules}
use Rattle.std.proofs.lemmas.Fn.{always_returns_same}
use Rattle.std.proofs.lemmas.List.Sorted.{ranks_by}
use Rattle.snap_core.specs.Listing.{listed_cmp}
use Rattle.snap_core.proofs.InOrder.{listed_total}
use Rattle.snap_core.proofs.store.sort.Goals as goal

pub returns-clause-sorted : goal.returns-clause-sorted
returns-clause-sorted c = c.sort_unstable_by.ensures.sorted (λ a b. is_lt (listed_cmp a b)) (ranks_by listed_total (λ x. x)) (always_returns_same _ _ _ (λ a r f k. search rules))
