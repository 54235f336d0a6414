-- A topology has one text of routes, and one first pair apart.
use Rattle.std.proofs.Common.{◌≡◌, ℕ, zero, suc, ◌+◌, ◌==◌, ◌<◌, ◌≤◌, ◌⊎◌, inl, inr, true, false, List, [], ◌∷◌, ◌++◌, length, refl, sym, subst, ap, ap₂, arith}
use Rattle.std.specs.Prelude.{◌≢◌, codes, decimal}
use Rattle.std.specs.List.{concat, range_with_len}
use Rattle.std.proofs.lemmas.Bool.{cases_eq, cases_lt}
use Rattle.std.proofs.lemmas.Bool.Decides.{eqb_tells}
use Rattle.snap_topology.specs.Tables.{next_of}
use Rattle.snap_topology.specs.Walks.{HasWalk, IsDiameter, IsDistance, IsNext, IsWalk, Linked}
use Rattle.snap_topology.proofs.Walking.{distance-walk}
use Rattle.snap_cli.specs.Routes.{end_text, line_between, lines_from}
use Rattle.snap_cli.proofs.Pipeline.{least_once}
use Rattle.snap_placement.proofs.Once.{same_distance}
use Rattle.snap_runs.specs.Tallies.{name_in}
use Rattle.snap_cli.proofs.Shared.{AreRoutes, flat_map, IsUnreachable, routes_text, Table, Topology}

-- a property that has no least number has none
module _ (P : ℕ → Type 0) (no_least : (d : ℕ) → P d → ((e : ℕ) → P e → d ≤ e) → ⊥) where
  at_least : (n k e : ℕ) → ((j : ℕ) → j < n → P j → ⊥) → k < suc n → P e → (e < k) ⊎ (k ≤ e) → k ≤ e
  at_least n k e below l h (inl less) = absurd (below e (omega (arith, l, less)) h)
  at_least n k e below l h (inr up) = up

  none_below : (n k : ℕ) → k < n → P k → ⊥
  none_below zero k l h = absurd (omega (arith, l))
  none_below (suc n) k l h = no_least k h (λ e g. at_least n k e (none_below n) l g (cases_lt e k))

module _ (step : ℕ → ℕ → Type 0) where
  -- where there is a walk, there is a distance
  has_distance : (a b : ℕ) → HasWalk step a b → ((d : ℕ) → IsDistance step a b d → ⊥) → ⊥
  has_distance a b walk none =
      none_below (λ d. (xs : List ℕ) × ((length xs ≡ d) × IsWalk step a xs b))
      (λ d h least. none d (record { walk = h; least = λ xs w. least (length xs) (xs, (refl, w)) }))
      (suc (length walk.0)) (length walk.0) (omega arith) (walk.0, (refl, walk.1))

  next_at : (a b m n d e : ℕ) → IsNext step a b m → IsNext step a b n → IsDistance step m b d → IsDistance step n b e → m ≡ n
  next_at a b m n d e x y dm dn =
      let up = x.nearest n d e y.neighbour dm dn in
      let down = y.nearest m e d x.neighbour dn dm in
      let same : e ≡ d = omega (arith, up, down) in
      let lesser = x.least n d y.neighbour dm (subst (IsDistance step n b) same dn) in
      let other = y.least m e x.neighbour dn (subst (IsDistance step m b) (sym same) dm) in
      omega (arith, lesser, other)

  next_once : (a b m n : ℕ) → IsNext step a b m → IsNext step a b n → HasWalk step m b → HasWalk step n b → (m ≡ n) ⊎ (m ≡ n → ⊥) → m ≡ n
  next_once a b m n x y wm wn (inl e) = e
  next_once a b m n x y wm wn (inr ne) =
      absurd (has_distance m b wm (λ d dm. has_distance n b wn (λ e dn. ne (next_at a b m n d e x y dm dn))))

  diameter_once : (count d e : ℕ) → IsDiameter step count d → IsDiameter step count e → d ≡ e
  diameter_once count d e x y =
      let up = y.greatest x.reached.0 x.reached.1.0 d x.reached.1.1.0 x.reached.1.1.1.0 x.reached.1.1.1.1 in
      let down = x.greatest y.reached.0 y.reached.1.0 e y.reached.1.1.0 y.reached.1.1.1.0 y.reached.1.1.1.1 in
      omega (arith, up, down)

pub apart_once : (t : Topology) (a b c d : ℕ) → IsUnreachable t a b → IsUnreachable t c d → (a ≡ c) × (b ≡ d)
apart_once t a b c d x y = least_once a b c d (λ before. y.apart (x.first c d y.lesser y.below before)) (λ before. x.apart (y.first a b x.lesser x.below before))

-- a topology with routes has no pair apart
pub none_apart : (t : Topology) (table : Table) (a b : ℕ) → AreRoutes t table → IsUnreachable t a b → ⊥
none_apart t table a b r x =
    let l = x.lesser in
    let below = x.below in
    x.apart (distance-walk (Linked t.links) a b _ (r.distances a b (omega (arith, l, below)) below))

-- texts of the numbers from a number on
same_rows : (f g : ℕ → List ℕ) (a n : ℕ) → ((k : ℕ) → a ≤ k → k < a + n → f k ≡ g k) → flat_map f (range_with_len a n) ≡ flat_map g (range_with_len a n)
same_rows f g a zero same = refl
same_rows f g a (suc n) same =
    ap₂ ◌++◌ (same a (omega arith) (omega arith)) (same_rows f g (a + 1) n (λ k low high. same k (omega (arith, low)) (omega (arith, high))))

module _ (t : Topology) (x y : Table) (rx : AreRoutes t x) (ry : AreRoutes t y) where
  linked_back : (a b : ℕ) → Linked t.links a b → Linked t.links b a
  linked_back a b (inl h) = inr h
  linked_back a b (inr h) = inl h

  -- a neighbour has a walk by way of the switch
  walk_by : (a b m : ℕ) → a < length t.switches → b < length t.switches → Linked t.links a m → HasWalk (Linked t.links) m b
  walk_by a b m la lb step = let walk = distance-walk (Linked t.links) a b _ (rx.distances a b la lb) in (a ∷ walk.0, (linked_back a m step, walk.1))

  same_next : (a b : ℕ) → a < length t.switches → b < length t.switches → a ≢ b → next_of x a b ≡ next_of y a b
  same_next a b la lb ne =
      let n = rx.nexts a b la lb ne in
      let m = ry.nexts a b la lb ne in
      next_once (Linked t.links) a b _ _ n m (walk_by a b _ la lb n.neighbour) (walk_by a b _ la lb m.neighbour) (cases_eq _ _)

  same_line : (a b : ℕ) → a < length t.switches → b < length t.switches → line_between t.switches x a b ≡ line_between t.switches y a b
  same_line a b la lb = from (eqb_tells a b)
    where
      from : (((a == b) ≡ true) × (a ≡ b)) ⊎ (((a == b) ≡ false) × (a ≡ b → ⊥)) → line_between t.switches x a b ≡ line_between t.switches y a b
      from (inl e) = rw e.0 refl
      from (inr e) =
          rw e.0
          (ap₂ (λ d n. concat (codes "route " ∷ name_in t.switches a ∷ codes " " ∷ name_in t.switches b ∷ codes " " ∷ decimal d ∷ codes " " ∷ name_in t.switches n ∷ codes "\n" ∷ []))
          (same_distance t x y rx ry a b la lb) (same_next a b la lb e.1))

  pub same_routes : routes_text t.switches x ≡ routes_text t.switches y
  same_routes =
      let n = length t.switches in
      ap₂ ◌++◌
      (same_rows (lines_from t.switches x) (lines_from t.switches y) 0 n
      (λ a low la. same_rows (line_between t.switches x a) (line_between t.switches y a) 0 n (λ b down lb. same_line a b (omega (arith, la)) (omega (arith, lb)))))
      (ap end_text (diameter_once (Linked t.links) n x.diameter y.diameter rx.diameter ry.diameter))
