-- The outs so far.
use Rattle.std.proofs.Common.{◌≡◌, ℕ, List, length, take}
use Rattle.std.specs.Prelude.{All}
use Rattle.snap_core.specs.Tests.{OutFits, after_out, results}
use Rattle.snap_compose.proofs.substituted.outs_before.Given as goal

abbrev pub invariant-loop-one : goal.invariant-loop-one
invariant-loop-one l = record {
  fits : All (OutFits l.comps) l.outs.items;
  both : (k : List ℕ) → length k ≡ l.comps → results l.outs.items k ≡ results (take l.one-index l.later) (after_out l.out k);
}
