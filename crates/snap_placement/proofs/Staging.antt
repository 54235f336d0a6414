-- One rank of a plan, and where it begins.
use Rattle.std.proofs.Common.{◌≡◌, ◌∙◌, ℕ, ◌+◌, ◌*◌, ◌^◌, ◌<◌, ◌≤◌, List, [], All, length, slice_index, sym, subst, arith}
use Rattle.std.specs.List.{sum_by}
use Rattle.std.proofs.Math.Nat.{mul-le-mul}
use Rattle.std.proofs.lemmas.List.Elements.{All-contains, All-nil}
use Rattle.snap_topology.specs.Tables.{Table, distance_of, switch_count}
use Rattle.snap_placement.specs.declared.trips.End.{End}
use Rattle.snap_placement.specs.declared.trips.End.TheVariants.{From, To}
use Rattle.snap_placement.specs.declared.trips.Trip.{Trip}
use Rattle.snap_placement.specs.Costs.{cost_from}
use Rattle.snap_placement.specs.Steps.{AreNear, IsCheapest, IsPlan, IsRow, IsStage, cost_over, end_of, leg}
use Rattle.snap_placement.proofs.Bests.{none-best}
use Rattle.snap_placement.proofs.Costing.{cost_from-none, sum_by-within, weight_of}
use Rattle.snap_placement.proofs.Filling.{Fills}

-- ---- what an end costs

leg-small : (routes : Table) (end : End) (at switch : ℕ) → AreNear routes → at < switch_count routes → switch < switch_count routes → leg routes end at switch ≤ 255
leg-small routes From at switch near lt less = near at switch lt less
leg-small routes To at switch near lt less = near switch at less lt

pub end-small : (routes : Table) (end : End) (trips : List Trip) (n switch : ℕ) → AreNear routes → n ≡ switch_count routes → switch < n → All (λ (t : Trip). end_of end t < n) trips → sum_by weight_of trips < 2 ^ 48
    → sum_by (λ (t : Trip). t.weight * leg routes end (end_of end t) switch) trips ≤ 2 ^ 56
end-small routes end trips n switch near count lt below light =
    let all = sum_by-within (λ (t : Trip). end_of end t < n) (λ (t : Trip). t.weight * leg routes end (end_of end t) switch) weight_of 255
    (λ t low. let small = leg-small routes end (end_of end t) switch near (omega arith) (omega arith) in mul-le-mul (heavy t) small) trips below in
    omega arith
  where
    heavy : (t : Trip) → t.weight ≤ t.weight
    heavy t = omega arith

-- a number by what it is equal to
pub fits-by : (a b : ℕ) → a ≡ b → b ≤ 2 ^ 56 → a < 2 ^ 64
fits-by a b is small = omega arith

-- ---- one stage

pub cost-same : (cost : ℕ → ℕ) (allowed : List ℕ) (a b : ℕ) → IsCheapest cost allowed a → IsCheapest cost allowed b → cost a ≡ cost b
cost-same cost allowed a b one other = let low = one.least b other.member in let high = other.least a one.member in omega arith

pub stage-of : (routes : Table) (total n at : ℕ) (allowed onward nexts made costs : List ℕ) → at ≡ n → made ≡ nexts
    → Fills (λ (x next : ℕ). IsCheapest (cost_over routes total onward x) allowed next) at nexts
    → Fills (λ (x cost : ℕ). (m : ℕ) → IsCheapest (cost_over routes total onward x) allowed m → cost ≡ cost_over routes total onward x m) at costs
    → IsStage routes total n allowed onward made costs
stage-of routes total n at allowed onward nexts made costs end is found priced =
    subst (λ (xs : List ℕ). IsStage routes total n allowed onward xs costs) (sym is) (record {
      long = found.count ∙ end;
      count = priced.count ∙ end;
      cheapest = λ x lt. found.each x (omega arith);
      cost = λ x lt. priced.each x (omega arith) (slice_index nexts x) (found.each x (omega arith));
    })

-- a stage costs at most 2^56 more
pub stage-low : (routes : Table) (total n : ℕ) (allowed onward nexts costs : List ℕ) (left old most : ℕ) → AreNear routes → n ≡ switch_count routes → total < 2 ^ 48 → All (λ m. m < n) allowed → IsStage routes total n allowed onward nexts costs
    → old ≡ left + 1 → ((x : ℕ) → x < n → slice_index onward x + old * 2 ^ 56 ≤ most) → (x : ℕ) → x < n → slice_index costs x + left * 2 ^ 56 ≤ most
stage-low routes total n allowed onward nexts costs left old most near count light below stage step low x lt =
    let next = slice_index nexts x in
    let inside = All-contains (λ m. m < n) allowed next below (stage.cheapest x lt).member in
    let small = near x next (omega arith) (omega arith) in
    let heavy : total ≤ 2 ^ 48 = omega arith in
    let product = mul-le-mul heavy small in
    let is = stage.cost x lt in
    let before = low next inside in
    omega arith

-- ---- the last rank

pub plan-none : (routes : Table) (trips : List Trip) (n : ℕ) (costs : List ℕ) → length costs ≡ n → ((x : ℕ) → x < n → slice_index costs x ≡ sum_by (λ (t : Trip). t.weight * leg routes To (end_of To t) x) trips)
    → IsPlan (distance_of routes) trips [] n [] costs
plan-none routes trips n costs count each = record {
  count = count;
  rows = All-nil (IsRow n);
  best = λ x lt. none-best (cost_from (distance_of routes) trips x);
  cost = λ x lt. each x lt ∙ sym (cost_from-none (distance_of routes) trips x);
}
