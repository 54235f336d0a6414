-- What the updates so far add is counted.
use Rattle.std.proofs.Common.{◌≡◌, false, length, take}
use Rattle.std.specs.Prelude.{All}
use Rattle.snap_core.specs.declared.place.Place.{Place}
use Rattle.snap_core.specs.Arrays.{has}
use Rattle.snap_context.specs.Classes.{wrap}
use Rattle.snap_equal.specs.Tally.{IsSum, signed_total, total}
use Rattle.snap_equal.specs.Told.{On}
use Rattle.snap_equal.proofs.tally.count.Given as goal

abbrev pub invariant-loop-update : goal.invariant-loop-update
invariant-loop-update l = record {
  sums : All (IsSum l.mixed (length l.ctx.classes) l.arrays) l.sums.items;
  total : On l.ctx (λ m k. (q : Place) → has l.mixed q.var ≡ false → total l.sums.items k q ≡ wrap (total l.initial.sums.items k q) (signed_total l.sign (take l.update-index l.updates) k q));
}
