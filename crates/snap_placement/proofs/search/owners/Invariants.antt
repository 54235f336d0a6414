use Rattle.std.proofs.Common.{◌≡◌, ℕ, slice_index}
use Rattle.snap_dep.specs.Ranks.{rank_of}
use Rattle.snap_placement.proofs.Filling.{Fills}
use Rattle.snap_placement.proofs.search.owners.Given as goal

-- the owners so far
abbrev pub invariant-loop-var : goal.invariant-loop-var
invariant-loop-var l = Fills (λ (v at : ℕ). at ≡ slice_index l.stops (rank_of l.groups v)) l.var l.owners.items
