-- What is pushed so far, and what is left.
use Rattle.std.proofs.Common.{◌≡◌, ◌++◌, drop}
use Rattle.std.specs.Prelude.{map}
use Rattle.snap_compose.specs.PulledBack.{early_update}
use Rattle.snap_compose.proofs.substituted.updates_before.Given as goal

abbrev pub invariant-loop-update : goal.invariant-loop-update
invariant-loop-update l = l.updates.items ++ map (early_update l.out) (drop l.update-index l.later) ≡ map (early_update l.out) l.later
