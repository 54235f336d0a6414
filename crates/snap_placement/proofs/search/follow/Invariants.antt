use Rattle.std.proofs.Common.{◌≡◌, ◌++◌, ◌∷◌, drop}
use Rattle.snap_placement.specs.Steps.{Follows, path}
use Rattle.snap_placement.proofs.search.follow.Given as goal

-- the way so far, before what is left of it
abbrev pub invariant-loop-stage : goal.invariant-loop-stage
invariant-loop-stage l = record {
  rows : Follows (drop l.stage-index l.nexts) l.at;
  all : l.way.items ++ path (drop l.stage-index l.nexts) l.at ≡ l.first ∷ path l.nexts l.first;
}
