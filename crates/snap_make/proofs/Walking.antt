-- Ways and routes of tables, and the switches on them.
use Rattle.std.proofs.Common.{◌≡◌, ◌≢◌, ℕ, zero, suc, ◌<◌, inl, inr, ⊎_elim, Bool, true, false, cond, List, [], ◌∷◌, ◌++◌, map, Option, Some, None, refl, sym, ap, subst, ◌∙◌, arith}
use Rattle.std.specs.Prelude.{nat_eq, slice_get, option_map, unwrap_or, Contains}
use Rattle.std.proofs.lemmas.Bool.{eqb-true, eqb-false}
use Rattle.std.proofs.lemmas.List.Elements.{Contains-append_left, Contains-append_right, Contains-append_cases}
use Rattle.snap_core.specs.declared.policy.Update.{Update}
use Rattle.snap_topology.specs.Tables.{Table, distance_of, next_of}
use Rattle.snap_core.proofs.Members.{Contains-here}
use Rattle.snap_topology.proofs.Joined.{Contains-nil, Contains-cons_cases, Contains-tail}
use Rattle.snap_rows.specs.declared.tables.ArrayAt.{ArrayAt}
use Rattle.snap_rows.specs.declared.tables.Tables.{Tables}
use Rattle.snap_rows.specs.declared.tables.Stage.{Stage as LeafStage}
use Rattle.snap_rows.specs.Entries.{next}
use Rattle.snap_rows.specs.Form.{switch_count}
use Rattle.snap_rows.specs.Ways.{Way, here, on, Route, end, leg}
use Rattle.snap_rows.proofs.Rows.{All-get}
use Rattle.snap_make.specs.Demands.{IsSetting}
use Rattle.snap_make.specs.Marks.{IsBehind, next_one, later_one, IsOnWalk}
use Rattle.snap_faithful.specs.OnDemand.{in_front, stages_of, place_of}

-- no switch is behind the target
pub none_behind : {routes : Table} {x v : ℕ} → IsBehind routes x x v → ⊥
none_behind (next_one apart) = apart refl
none_behind (later_one apart more) = apart refl

-- the switches of stages
abbrev pub switches_of : List LeafStage → List ℕ
switches_of ss = map (λ (s : LeafStage). s.at) ss

module _ (t : Tables) (routes : Table) (s : IsSetting t routes) where
  pub place_low : (v : ℕ) → place_of t v < switch_count t
  place_low v = by (slice_get t.arrays v) refl
    where
      by : (o : Option ArrayAt) → slice_get t.arrays v ≡ o → unwrap_or (option_map (λ (a : ArrayAt). a.at) o) 0 < switch_count t
      by None e = let h = s.some in omega (arith, h)
      by (Some a) e = All-get (λ (a : ArrayAt). a.at < switch_count t) t.arrays v a s.arrays e

  pub near : (a b : ℕ) → a < switch_count t → b < switch_count t → a ≢ b → (next_of routes a b < switch_count t) × (distance_of routes (next_of routes a b) b < distance_of routes a b)
  near a b la lb apart =
      let n = s.nearer a b (subst (λ c. a < c) (sym s.count) la) (subst (λ c. b < c) (sym s.count) lb) apart in
      (subst (λ c. next_of routes a b < c) s.count n.0, n.1)

  -- a way, one hop longer
  longer : (a b : ℕ) → a < switch_count t → b < switch_count t → a ≢ b → {ws : List ℕ} → Way t b (next_of routes a b) ws → Way t b a (next t a b ∷ ws)
  longer a b la lb apart {ws = ws} way = on apart (subst (λ x. Way t b x ws) (sym (s.hops a b la lb apart)) way)

  a_way : (fuel a b : ℕ) → distance_of routes a b < fuel → a < switch_count t → b < switch_count t → (c : Bool) → nat_eq a b ≡ c → (ws : List ℕ) × Way t b a ws
  a_way fuel a b l la lb true e = ([], subst (λ v. Way t b v []) (sym (eqb-true a b e)) here)
  a_way zero a b l la lb false e = absurd (omega (arith, l))
  a_way (suc fuel) a b l la lb false e =
      let apart = eqb-false a b e in
      let n = near a b la lb apart in
      let rest = a_way fuel (next_of routes a b) b (let m = n.1 in omega (arith, m, l)) n.0 lb (nat_eq (next_of routes a b) b) refl in
      (next t a b ∷ rest.0, longer a b la lb apart rest.1)

  pub some_way : (a b : ℕ) → a < switch_count t → b < switch_count t → (ws : List ℕ) × Way t b a ws
  some_way a b la lb = a_way (suc (distance_of routes a b)) a b (omega arith) la lb (nat_eq a b) refl

  -- ---- what is behind on the way is on it
  pub behind_low : (b : ℕ) → b < switch_count t → {a v : ℕ} → a < switch_count t → IsBehind routes b a v → v < switch_count t
  behind_low b lb {a = a} la (next_one apart) = (near a b la lb apart).0
  behind_low b lb {a = a} la (later_one apart more) = behind_low b lb (near a b la lb apart).0 more

  pub behind_way : (b : ℕ) → b < switch_count t → {a v : ℕ} → a < switch_count t → IsBehind routes b a v → (ws : List ℕ) × Way t b a ws × Contains ws v
  behind_way b lb {a = a} la (next_one apart) =
      let rest = some_way (next_of routes a b) b (near a b la lb apart).0 lb in
      (next t a b ∷ rest.0, longer a b la lb apart rest.1, subst (Contains (next t a b ∷ rest.0)) (s.hops a b la lb apart) (Contains-here (next t a b) rest.0))
  behind_way b lb {a = a} {v = v} la (later_one apart more) =
      let rest = behind_way b lb (near a b la lb apart).0 more in
      (next t a b ∷ rest.0, longer a b la lb apart rest.1, Contains-tail (next t a b) rest.0 v rest.2)

  pub way_behind : (b : ℕ) → b < switch_count t → {a : ℕ} {ws : List ℕ} → a < switch_count t → Way t b a ws → (v : ℕ) → Contains ws v → IsBehind routes b a v
  way_behind b lb la here v inside = absurd (Contains-nil v inside)
  way_behind b lb la (on {w = a} {ws = ws} apart way) v inside =
      let is = s.hops a b la lb apart in
      let l : next t a b < switch_count t = subst (λ x. x < switch_count t) (sym is) (near a b la lb apart).0 in
      ⊎_elim
      (λ e. subst (IsBehind routes b a) (sym is ∙ e) (next_one apart))
      (λ more. later_one apart (subst (λ x. IsBehind routes b x v) is (way_behind b lb l way v more)))
      (Contains-cons_cases (next t a b) ws v inside)

  -- ---- the walk over the places of updates is the route over their stages
  abbrev Legs : ℕ → List Update → List ℕ → Type 0
  Legs w us ws = Route t w (switches_of (stages_of (place_of t) us)) ws

  pub on_walk_low : (us : List Update) (w : ℕ) → w < switch_count t → (v : ℕ) → IsOnWalk routes (place_of t) w us v → v < switch_count t
  on_walk_low [] w low v h = absurd h
  on_walk_low (u ∷ us) w low v (inl b) = behind_low (place_of t u.var) (place_low u.var) low b
  on_walk_low (u ∷ us) w low v (inr h) = on_walk_low us (place_of t u.var) (place_low u.var) v h

  from_here : {x y : ℕ} {ws : List ℕ} → Way t x y ws → y ≡ x → ws ≡ []
  from_here here e = refl
  from_here (on apart way) e = absurd (apart e)

  -- from the place of an update over the stages of the others
  legs_from : (u : Update) (w : ℕ) {ws : List ℕ} → Way t (place_of t u.var) w ws → (ss : List LeafStage) {vs : List ℕ} → Route t (place_of t u.var) (switches_of ss) vs
      → Route t w (switches_of (in_front (place_of t u.var) u ss)) (ws ++ vs)
  legs_from u w way [] route = leg way route
  legs_from u w {ws = ws} way (x ∷ ss) {vs = vs} route = by (nat_eq x.at (place_of t u.var)) refl route
    where
      drop_first : x.at ≡ place_of t u.var → {vs : List ℕ} → Route t (place_of t u.var) (x.at ∷ switches_of ss) vs → Route t (place_of t u.var) (switches_of ss) vs
      drop_first e (leg {ws = a} {vs = b} first later) =
          let none : a ≡ [] = from_here first (sym e) in
          subst (λ c. Route t (place_of t u.var) (switches_of ss) (c ++ b)) (sym none) (subst (λ y. Route t y (switches_of ss) b) e later)

      by : (b : Bool) → nat_eq x.at (place_of t u.var) ≡ b → Route t (place_of t u.var) (x.at ∷ switches_of ss) vs
          → Route t w (switches_of (cond b (record { at = place_of t u.var; ups = u ∷ x.ups } ∷ ss) (record { at = place_of t u.var; ups = u ∷ [] } ∷ x ∷ ss))) (ws ++ vs)
      by true e r = leg way (drop_first (eqb-true x.at (place_of t u.var) e) r)
      by false e r = leg way r

  some_legs : (us : List Update) (w : ℕ) → w < switch_count t → (ws : List ℕ) × Legs w us ws
  some_legs [] w low = ([], end)
  some_legs (u ∷ us) w low =
      let way = some_way w (place_of t u.var) low (place_low u.var) in
      let rest = some_legs us (place_of t u.var) (place_low u.var) in
      (way.0 ++ rest.0, legs_from u w way.1 (stages_of (place_of t) us) rest.1)

  pub walk_legs : (us : List Update) (w : ℕ) → w < switch_count t → (v : ℕ) → IsOnWalk routes (place_of t) w us v → (ws : List ℕ) × Legs w us ws × Contains ws v
  walk_legs [] w low v h = absurd h
  walk_legs (u ∷ us) w low v (inl b) =
      let way = behind_way (place_of t u.var) (place_low u.var) low b in
      let rest = some_legs us (place_of t u.var) (place_low u.var) in
      (way.0 ++ rest.0, legs_from u w way.1 (stages_of (place_of t) us) rest.1, Contains-append_left way.0 rest.0 v way.2)
  walk_legs (u ∷ us) w low v (inr h) =
      let way = some_way w (place_of t u.var) low (place_low u.var) in
      let rest = walk_legs us (place_of t u.var) (place_low u.var) v h in
      (way.0 ++ rest.0, legs_from u w way.1 (stages_of (place_of t) us) rest.1, Contains-append_right way.0 rest.0 v rest.2)

  pub legs_walk : (us : List Update) (w : ℕ) → w < switch_count t → (ws : List ℕ) → Legs w us ws → (v : ℕ) → Contains ws v → IsOnWalk routes (place_of t) w us v
  legs_walk [] w low ws end v inside = absurd (Contains-nil v inside)
  legs_walk (u ∷ us) w low ws route v inside = by (stages_of (place_of t) us) refl route inside (legs_walk us (place_of t u.var) (place_low u.var))
    where
      two : (ss : List LeafStage) {ws : List ℕ} → Route t w (place_of t u.var ∷ switches_of ss) ws → Contains ws v
          → ((vs : List ℕ) → Route t (place_of t u.var) (switches_of ss) vs → Contains vs v → IsOnWalk routes (place_of t) (place_of t u.var) us v)
          → IsOnWalk routes (place_of t) w (u ∷ us) v
      two ss (leg {ws = a} {vs = b} way later) inside more =
          ⊎_elim (λ x. inl (way_behind (place_of t u.var) (place_low u.var) low way v x)) (λ x. inr (more b later x)) (Contains-append_cases a b v inside)

      by : (ss : List LeafStage) → stages_of (place_of t) us ≡ ss → {ws : List ℕ} → Route t w (switches_of (in_front (place_of t u.var) u ss)) ws → Contains ws v
          → ((ws : List ℕ) → Legs (place_of t u.var) us ws → (v : ℕ) → Contains ws v → IsOnWalk routes (place_of t) (place_of t u.var) us v)
          → IsOnWalk routes (place_of t) w (u ∷ us) v
      by [] is route inside more = two [] route inside (λ vs r x. more vs (subst (λ ss. Route t (place_of t u.var) (switches_of ss) vs) (sym is) r) v x)
      by (x ∷ ss) is {ws = ws} route inside more = at (nat_eq x.at (place_of t u.var)) refl route
        where
          at : (b : Bool) → nat_eq x.at (place_of t u.var) ≡ b
              → Route t w (switches_of (cond b (record { at = place_of t u.var; ups = u ∷ x.ups } ∷ ss) (record { at = place_of t u.var; ups = u ∷ [] } ∷ x ∷ ss))) ws
              → IsOnWalk routes (place_of t) w (u ∷ us) v
          at true e r = two ss r inside (λ vs r' y.
              more vs (subst (λ ss. Route t (place_of t u.var) (switches_of ss) vs) (sym is)
              (leg (subst (λ z. Way t x.at z []) (eqb-true x.at (place_of t u.var) e) here) (subst (λ z. Route t z (switches_of ss) vs) (sym (eqb-true x.at (place_of t u.var) e)) r'))) v y)
          at false e r = two (x ∷ ss) r inside (λ vs r' y. more vs (subst (λ ss. Route t (place_of t u.var) (switches_of ss) vs) (sym is) r') v y)

-- the first stage is at the place of the first update
pub first_stage : (place : ℕ → ℕ) (u : Update) (us : List Update) (s : LeafStage) (ss : List LeafStage) → stages_of place (u ∷ us) ≡ s ∷ ss → s.at ≡ place u.var
first_stage place u us s ss e = ap head_at (sym e) ∙ by (stages_of place us)
  where
    head_at : List LeafStage → ℕ
    head_at [] = 0
    head_at (x ∷ xs) = x.at

    by : (xs : List LeafStage) → head_at (in_front (place u.var) u xs) ≡ place u.var
    by [] = refl
    by (x ∷ xs) = at (nat_eq x.at (place u.var))
      where
        at : (b : Bool) → head_at (cond b (record { at = place u.var; ups = u ∷ x.ups } ∷ xs) (record { at = place u.var; ups = u ∷ [] } ∷ x ∷ xs)) ≡ place u.var
        at true = refl
        at false = refl
