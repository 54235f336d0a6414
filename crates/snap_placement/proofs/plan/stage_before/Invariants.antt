use Rattle.std.proofs.Common.{◌≡◌, ℕ}
use Rattle.snap_placement.specs.Steps.{IsCheapest, cost_over}
use Rattle.snap_placement.proofs.Filling.{Fills}
use Rattle.snap_placement.proofs.plan.stage_before.Given as goal

-- the switches so far have their next ones, and what these cost
abbrev pub invariant-loop-at : goal.invariant-loop-at
invariant-loop-at l = record {
  nexts : Fills (λ (x next : ℕ). IsCheapest (cost_over l.routes l.total l.onward x) l.allowed next) l.at l.nexts.items;
  costs : Fills (λ (x cost : ℕ). (n : ℕ) → IsCheapest (cost_over l.routes l.total l.onward x) l.allowed n → cost ≡ cost_over l.routes l.total l.onward x n) l.at l.costs.items;
}
