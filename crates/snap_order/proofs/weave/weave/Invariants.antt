use Rattle.std.proofs.Common.{◌≡◌, List, length, map}
use Rattle.snap_net.specs.declared.flying.Flying.{Flying}
use Rattle.snap_order.specs.Weaving.{queues_of}
use Rattle.snap_order.proofs.Webs.{WovenSo}
use Rattle.snap_order.proofs.weave.weave.Given as goal

abbrev pub invariant-loop-at : goal.invariant-loop-at
invariant-loop-at l = record {
  count : length l.jobs.items ≡ l.workers;
  woven : (cs : List Flying) → map (λ (c : Flying). c.at) cs ≡ l.switches → WovenSo l.workers cs l.at-index (queues_of l.fn.jobs.items) (queues_of l.jobs.items) l.done.items l.flying.items;
}
