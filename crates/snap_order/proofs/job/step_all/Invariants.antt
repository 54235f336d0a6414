use Rattle.std.proofs.Common.{◌≡◌, ◌<◌, ◌/◌, List, ◌++◌, length}
use Rattle.std.specs.List.{All}
use Rattle.snap_rows.specs.Entries.{ranks}
use Rattle.snap_net.specs.declared.flying.Flying.{Flying}
use Rattle.snap_order.specs.declared.hand.Stepped.{Stepped}
use Rattle.snap_order.specs.Hands.{InPlace, SwitchState, Works, part_of}
use Rattle.snap_order.proofs.job.step_all.Given as goal

abbrev pub invariant-loop-copy : goal.invariant-loop-copy
invariant-loop-copy g l = record {
  on : (q : SwitchState) (xs : List Stepped) → Works l.tables l.workers (part_of l.workers l.job.stores.items l.job.counts.items) l.job.copies.items q xs → Works l.tables l.workers (part_of l.workers l.fn.job.stores.items l.counts) l.fn.job.copies.items q (l.job.done.items ++ xs);
  counted : length l.job.counts.items ≡ ranks l.tables;
  long : length l.job.stores.items ≡ length l.fn.job.stores.items;
  copies : All (InPlace l.tables) l.job.copies.items;
  places : All (λ (c : Flying). c.at / l.workers < length l.fn.job.stores.items) l.job.copies.items;
}

abbrev pub decreases-loop-copy : goal.decreases-loop-copy
decreases-loop-copy g l = length l.job.copies.items
