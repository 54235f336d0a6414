-- The order of the groups of a program, and placements by rank.
use Rattle.std.proofs.Common.{◌≡◌, ◌≢◌, ◌∙◌, inl, inr, ℕ, ◌<◌, ◌≤◌, List, [], All, Contains, length, get_or, eqb, sym, ap, subst, arith, slice_index, slice_index_or}
use Rattle.std.specs.Ordering.{nat_cmp}
use Rattle.std.specs.Cmp.Lexicographic.{slice_cmp}
use Rattle.std.specs.declared.cmp.Ordering.TheVariants.{Greater}
use Rattle.std.proofs.lemmas.Bool.{cases_eq, cases_lt, eq-eqb}
use Rattle.std.proofs.lemmas.Grind.{get_or_default_zero, same_number_lists}
use Rattle.std.proofs.lemmas.List.{get_or-map, get_or-take, length-map, length-take}
use Rattle.std.proofs.lemmas.List.Elements.{All-from_get_or, recursion_from_All}
use Rattle.std.proofs.lemmas.List.Folds.{list_any_at}
use Rattle.std.proofs.lemmas.Map.Steps.{le-length_from_below}
use Rattle.snap_core.specs.declared.policy.Pol.{Pol}
use Rattle.snap_dep.specs.Ranks.{Grouping, IsGroup, IsGrouping, rank_of}
use Rattle.snap_dep.proofs.Chains.{tied_back}
use Rattle.snap_placement.specs.Placements.{AreGroups, IsAllowed, IsLeast, places_of, stops}
use Rattle.snap_placement.specs.Steps.{IsBest, Picks, choices}
use Rattle.snap_placement.proofs.Bests.{Picks-at, Picks-map}

-- each group of the order is a variable whose rank is its place there
pub record IsOrdered (g : Grouping) : Type 0 where
  pub below : (i : ℕ) → i < length g.order → slice_index g.order i < length g.ranks
  pub rank : (i : ℕ) → i < length g.order → rank_of g (slice_index g.order i) ≡ i
  pub ranks : (v : ℕ) → v < length g.ranks → rank_of g v < length g.order

module _ (p : Pol) (g : Grouping) (is : IsGrouping p (length g.ranks) g) where
  group-at : (i : ℕ) → i < length g.order → IsGroup p (length g.ranks) (slice_index g.order i)
  group-at i lt = (is.order.steps i lt).group

  apart : (i j : ℕ) → i < j → j < length g.order → slice_index g.order i ≢ slice_index g.order j
  apart i j lt less same = (is.order.steps j less).new (i, (let size = length-take j g.order in omega arith), get_or-take j g.order i (slice_index g.order j) lt ∙ read i (omega arith) ∙ same)
    where
      read : (k : ℕ) → k < length g.order → get_or g.order k (slice_index g.order j) ≡ slice_index g.order k
      read k in' = get_or_default_zero g.order k (slice_index g.order j) in'

  rank-at : (i : ℕ) → i < length g.order → rank_of g (slice_index g.order i) ≡ i
  rank-at i lt =
      let v = slice_index g.order i in
      let here = group-at i lt in
      let r = rank_of g v in
      let inside = is.ranks.below v here.below in
      let there = group-at r inside in
      let tied = is.ranks.group v here.below in
      let low = here.least (slice_index g.order r) there.below (tied_back p (slice_index g.order r) v tied) in
      let high = there.least v here.below tied in
      let same : slice_index g.order r ≡ v = omega arith in
      elim (cases_lt r i) [
        | inl less ↦ absurd (apart r i less lt same)
        | inr more ↦ elim (cases_eq r i) [ inl equal ↦ equal | inr other ↦ absurd (apart i r (omega arith) inside (sym same)) ]
      ]

  order-is : IsOrdered g
  order-is = record { below = λ i lt. (group-at i lt).below; rank = rank-at; ranks = λ v lt. is.ranks.below v lt }

pub ordered : (g : Grouping) → AreGroups g → IsOrdered g
ordered g groups = order-is groups.0 g groups.1

-- there are no more groups than variables
pub fewer-groups : (g : Grouping) → IsOrdered g → length g.order ≤ length g.ranks
fewer-groups g is = le-length_from_below g.ranks (length g.order) (λ q lt.
    list_any_at (eqb q) g.ranks (slice_index g.order q) 0 (is.below q lt) (eq-eqb q (rank_of g (slice_index g.order q)) (sym (is.rank q lt))))

-- what holds of each variable holds of each group
pub of-groups : (g : Grouping) (P : ℕ → Type 0) → IsOrdered g → ((v : ℕ) → v < length g.ranks → P v) → All P g.order
of-groups g P is each = All-from_get_or P g.order 0 (λ i lt. each (slice_index g.order i) (is.below i lt))

pub found-long : (g : Grouping) (order : List ℕ) (allowed : List (List ℕ)) (cost : List ℕ → ℕ) (found : List ℕ) → order ≡ g.order → IsBest cost (choices order allowed) found → length found ≡ length g.order
found-long g order allowed cost found same best = (Picks-at (choices order allowed) found best.picks).0 ∙ length-map order (λ (v : ℕ). places_of allowed v) ∙ ap (λ (o : List ℕ). length o) same

module _ (g : Grouping) (allowed : List (List ℕ)) (cost : List ℕ → ℕ) (found owners : List ℕ)
    (is : IsOrdered g)
    (together : (a b : ℕ) → a < length g.ranks → b < length g.ranks → rank_of g a ≡ rank_of g b → (at : ℕ) → Contains (places_of allowed a) at → Contains (places_of allowed b) at)
    (best : IsBest cost (choices g.order allowed) found)
    (count : length owners ≡ length g.ranks)
    (each : (v : ℕ) → v < length g.ranks → slice_index owners v ≡ slice_index found (rank_of g v)) where
  found-count : length found ≡ length g.order
  found-count = (Picks-at (choices g.order allowed) found best.picks).0 ∙ length-map g.order (λ (v : ℕ). places_of allowed v)

  -- the switches by rank are those that were found
  pub stops-are : stops g owners ≡ found
  stops-are = same_number_lists (stops g owners) found (size ∙ sym found-count) (λ k lt.
      let in' : k < length g.order = omega (arith, size) in
      get_or-map (λ (v : ℕ). slice_index owners v) g.order k 0 0 in' ∙ each (slice_index g.order k) (is.below k in') ∙ ap (λ (r : ℕ). slice_index found r) (is.rank k in'))
    where
      size : length (stops g owners) ≡ length g.order
      size = length-map g.order (λ (v : ℕ). slice_index owners v)

  allowed-owners : IsAllowed g allowed owners
  allowed-owners = record {
    count = count;
    may = λ v lt.
        let r = rank_of g v in
        let inside = is.ranks v lt in
        let group = slice_index g.order r in
        let picked = (Picks-at (choices g.order allowed) found best.picks).1 r (let size = length-map g.order (λ (u : ℕ). places_of allowed u) in omega arith) in
        let places : slice_index_or (choices g.order allowed) r [] ≡ places_of allowed group = get_or-map (λ (u : ℕ). places_of allowed u) g.order r 0 [] inside in
        let there = subst (λ (c : List ℕ). Contains c (slice_index found r)) places picked in
        subst (λ (x : ℕ). Contains (places_of allowed v) x) (sym (each v lt)) (together group v (is.below r inside) lt (is.rank r inside) (slice_index found r) there);
    together = λ a b lt less same. each a lt ∙ ap (λ (r : ℕ). slice_index found r) same ∙ sym (each b less);
  }

  picks-of : (other : List ℕ) → IsAllowed g allowed other → Picks (choices g.order allowed) (stops g other)
  picks-of other fits = Picks-map (λ (v : ℕ). places_of allowed v) (λ (v : ℕ). slice_index other v) g.order
      (recursion_from_All (λ (v : ℕ). Contains (places_of allowed v) (slice_index other v)) g.order (of-groups g (λ (v : ℕ). Contains (places_of allowed v) (slice_index other v)) is fits.may))

  -- the best picks are the best placement
  pub least-owners : IsLeast g allowed (λ os. cost (stops g os)) owners
  least-owners =
      let price : cost (stops g owners) ≡ cost found = ap cost stops-are in
      record {
        fits = allowed-owners;
        least = λ other fits. let low = best.least (stops g other) (picks-of other fits) in omega arith;
        first = λ other fits same. subst (λ (xs : List ℕ). slice_cmp nat_cmp xs (stops g other) ≢ Greater) (sym stops-are) (best.first (stops g other) (picks-of other fits) (same ∙ price));
      }
