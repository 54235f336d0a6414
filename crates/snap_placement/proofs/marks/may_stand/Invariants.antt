use Rattle.std.proofs.Common.{◌≡◌, ◌<◌, ℕ, true}
use Rattle.snap_dep.specs.Ranks.{rank_of}
use Rattle.snap_placement.specs.Marks.{mark_at}
use Rattle.snap_placement.proofs.marks.may_stand.Given as goal

-- the variables so far are marked
abbrev pub invariant-loop-other : goal.invariant-loop-other
invariant-loop-other l = (u : ℕ) → u < l.other → rank_of l.groups u ≡ rank_of l.groups l.var → mark_at l.marks u l.at ≡ true
