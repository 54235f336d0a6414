use Rattle.std.proofs.Common.{◌≡◌, ◌+◌, ℕ, drop}
use Rattle.snap_placement.specs.Steps.{leg, weighed}
use Rattle.snap_placement.proofs.price.cost_at.Given as goal

-- the cost so far, and that of what is left
abbrev pub invariant-loop-at : goal.invariant-loop-at
invariant-loop-at l = l.cost + weighed (λ (at : ℕ). leg l.routes l.end at l.switch) l.at (drop l.at l.sums) ≡ weighed (λ (at : ℕ). leg l.routes l.end at l.switch) 0 l.sums
