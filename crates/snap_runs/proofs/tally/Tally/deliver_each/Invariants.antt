use Rattle.std.proofs.Common.{◌≡◌, ◌++◌}
use Rattle.std.specs.Vec.Iter.{into_iter_items}
use Rattle.snap_runs.specs.Tallies.{packets_sent}
use Rattle.snap_runs.proofs.tally.Tally.deliver_each.Given as goal

abbrev pub invariant-loop-sent : goal.invariant-loop-sent
invariant-loop-sent l = record {
  delivered : l.self.delivered.items ++ packets_sent (into_iter_items l.sent-iterator) ≡ l.fn.self.delivered.items ++ packets_sent l.fn.copies.items;
  lost : l.self.lost ≡ l.fn.self.lost;
  hops : l.self.hops.items ≡ l.fn.self.hops.items;
}
