use Rattle.std.proofs.Common.{◌≡◌, ℕ, ◌<◌, ◌≤◌, get_or, length}
use Rattle.snap_order.specs.Weaving.{HasCounts}
use Rattle.snap_order.proofs.weave.count_all.Given as goal

abbrev pub invariant-loop-rank : goal.invariant-loop-rank
invariant-loop-rank l = record {
  below : (r : ℕ) → r < l.rank → HasCounts l.tables l.workers l.jobs r (get_or l.fn.counts.items r 0) (get_or l.counts.items r 0);
  above : (r : ℕ) → l.rank ≤ r → get_or l.counts.items r 0 ≡ get_or l.fn.counts.items r 0;
  long : length l.counts.items ≡ length l.fn.counts.items;
}
