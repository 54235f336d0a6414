use Rattle.std.proofs.Common.{rules, is_lt}
use Rattle.std.specs.Cmp.Lexicographic.{nat_list_cmp_total}
use Rattle.std.proofs.lemmas.Fn.{always_returns_same}
use Rattle.std.proofs.lemmas.List.Sorted.{ranks_by}
use Rattle.snap_core.specs.Packets.{packet_cmp}
use Rattle.snap_runs.proofs.tally.sort.Goals as goal

pub returns-clause-rising : goal.returns-clause-rising
returns-clause-rising c = c.in_ok-sort_by.ensures.sorted (λ a b. is_lt (packet_cmp a b)) (ranks_by nat_list_cmp_total (λ x. x)) (always_returns_same _ _ _ (λ a r f k. search rules))
