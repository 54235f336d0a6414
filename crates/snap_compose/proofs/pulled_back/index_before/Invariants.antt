-- What is pushed so far, and what is left.
use Rattle.std.proofs.Common.{◌≡◌, ◌++◌, drop}
use Rattle.std.specs.Prelude.{map}
use Rattle.snap_compose.specs.PulledBack.{early_atom}
use Rattle.snap_compose.proofs.pulled_back.index_before.Given as goal

abbrev pub invariant-loop-atom : goal.invariant-loop-atom
invariant-loop-atom l = l.before.items ++ map (early_atom l.out) (drop l.atom-index l.atom-items) ≡ map (early_atom l.out) l.index
