-- A distance is below the number of switches, since each lesser number is a distance too.
use Rattle.std.proofs.Common.{◌≡◌, ◌∙◌, inl, inr, ℕ, ◌+◌, ◌<◌, true, List, [], ◌∷◌, All, length, map, get_or, eqb, refl, sym, subst, arith}
use Rattle.std.specs.List.{list_any, range_with_len}
use Rattle.std.proofs.lemmas.Bool.{cases_eq, eq-eqb}
use Rattle.std.proofs.lemmas.List.Elements.{All-contains}
use Rattle.std.proofs.lemmas.List.Folds.{list_any_at}
use Rattle.std.proofs.lemmas.List.FromFn.{get_or-map-range_with_len, length-map-range_with_len}
use Rattle.std.proofs.lemmas.Map.Steps.{le-length_from_below}
use Rattle.snap_topology.specs.declared.topology.Topology.{Topology}
use Rattle.snap_topology.specs.Form.{IsWellFormed, IsLink}
use Rattle.snap_topology.specs.Tables.{AreRoutes, Table, distance_of}
use Rattle.snap_topology.specs.Walks.{IsDistance, IsWalk, Linked}
use Rattle.snap_topology.proofs.Walking.{distance-same}
use Rattle.snap_placement.specs.Steps.{AreNear}

linked-below : (n : ℕ) (links : List (ℕ × ℕ)) (a m : ℕ) → All (IsLink n) links → Linked links a m → m < n
linked-below n links a m all step = elim step [
  | inl there ↦ (All-contains (IsLink n) links (a, m) all there).below
  | inr back ↦ let link = All-contains (IsLink n) links (m, a) all back in omega (arith, link.lesser, link.below)
]

module _ (step : ℕ → ℕ → Type 0) (n b : ℕ) (below : (a m : ℕ) → step a m → m < n) where
  -- along a least walk there is a switch at each lesser distance
  reached : (xs : List ℕ) (v : ℕ) → v < n → IsWalk step v xs b → IsDistance step v b (length xs) → (k : ℕ) → k < length xs + 1 → (u : ℕ) × ((u < n) × IsDistance step u b k)
  reached [] v lt walk dist k le = (v, (lt, subst (λ (j : ℕ). IsDistance step v b j) (omega arith) dist))
  reached (x ∷ xs) v lt walk dist k le = elim (cases_eq k (length (x ∷ xs))) [
    | inl same ↦ (v, (lt, subst (λ (j : ℕ). IsDistance step v b j) (sym same) dist))
    | inr other ↦ reached xs x (below v x walk.0) walk.1 (record { walk = (xs, (refl, walk.1)); least = λ ys w. let h = dist.least (x ∷ ys) (walk.0, w) in omega arith }) k (omega arith)
  ]

pub near : (topology : Topology) (t : Table) → IsWellFormed topology → AreRoutes topology t → AreNear t
near topology t form routes a b lt less =
    let n = length topology.switches in
    let step = Linked topology.links in
    let count = routes.count in
    let low : a < n = omega arith in
    let high : b < n = omega arith in
    let dist = routes.distances a b low high in
    let walk = dist.walk in
    let ds = map (λ (v : ℕ). distance_of t v b) (range_with_len 0 n) in
    let under = λ (x m : ℕ) (s : step x m). linked-below n topology.links x m form.links s in
    let there : (q : ℕ) → q < distance_of t a b + 1 → list_any (eqb q) ds ≡ true = λ q le.
    let u = reached step n b under walk.0 a low walk.1.1 (subst (λ (j : ℕ). IsDistance step a b j) (sym walk.1.0) dist) q (let e = walk.1.0 in omega arith) in
    let size = length-map-range_with_len (λ (v : ℕ). distance_of t v b) 0 n in
    let is : get_or ds u.0 0 ≡ distance_of t u.0 b = get_or-map-range_with_len (λ (v : ℕ). distance_of t v b) 0 n u.0 u.0 0 u.1.0 (omega arith) in
    let same : distance_of t u.0 b ≡ q = distance-same step u.0 b (distance_of t u.0 b) q (routes.distances u.0 b u.1.0 high) u.1.1 in
    list_any_at (eqb q) ds u.0 0 (let in' = u.1.0 in omega arith) (eq-eqb q (get_or ds u.0 0) (sym (is ∙ same))) in
    let all = le-length_from_below ds (distance_of t a b + 1) there in
    let size = length-map-range_with_len (λ (v : ℕ). distance_of t v b) 0 n in
    omega (arith, form.switches)
