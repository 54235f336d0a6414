use Rattle.std.proofs.Common.{◌≡◌, ℕ, sym, subst, arith, List}
use Rattle.std.proofs.lemmas.Grind.{common_steps}
use Rattle.snap_core.specs.Arrays.{zero_arrays}
use Rattle.snap_core.specs.Cells.{Kept}
use Rattle.snap_net.specs.Shown.{store_of}
use Rattle.snap_net.proofs.Steps.{more_empty}
use Rattle.snap_net.proofs.net.empty_stores.Goals as goal

pub loop-i-preserved : goal.loop-i-preserved
loop-i-preserved c = record {
  count = grind (arith, common_steps);
  empty = subst (λ (xs : List Kept). (w : ℕ) → store_of xs w ≡ zero_arrays) (sym c.in_ok-push.ensures.items) (more_empty c.loop-i.stores.items c.new.result c.loop-i.invariant.empty c.new.ensures);
}
