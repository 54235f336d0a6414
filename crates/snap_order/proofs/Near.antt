-- Next hops of tables go by least walks: how far the switches are from each other.
use Rattle.std.proofs.Common.{◌≡◌, ◌≢◌, ℕ, zero, suc, ◌+◌, ◌<◌, ◌≤◌, ⊎_elim, Bool, true, false, cond, List, [], ◌∷◌, length, refl, sym, ap, subst, ◌∙◌, arith, ◌&&◌}
use Rattle.std.specs.Prelude.{nat_eq, nat_lt}
use Rattle.std.proofs.lemmas.Bool.{lt-ltb, ltb-true, cond-true, cond-false, and_parts, eqb-true, eqb-false, eq-eqb, cases_lt}
use Rattle.snap_topology.specs.Walks.{IsWalk, IsDistance, IsNext, IsDiameter}
use Rattle.snap_rows.specs.declared.tables.Rule.TheVariants.{Loop}
use Rattle.snap_rows.specs.declared.tables.Tables.{Tables}
use Rattle.snap_rows.specs.Bound.{distance, hops_within}
use Rattle.snap_rows.specs.Entries.{next}
use Rattle.snap_rows.specs.Form.{switch_count}
use Rattle.snap_rows.specs.Ways.{Way, here, on}
use Rattle.snap_rows.proofs.Arrives.{next_below, owner_below, way_to}
use Rattle.snap_rows.proofs.Bounded.{nearer, port_below}
use Rattle.snap_faithful.proofs.Bounds.{HasDistances}
use Rattle.snap_faithful.proofs.Nodes.{IsTwo}

module _ (t : Tables) (two : IsTwo t) (joins : ℕ → ℕ → Type 0) (hops : (a b : ℕ) → a < switch_count t → b < switch_count t → a ≢ b → IsNext joins a b (next t a b)) where
  -- where there is a walk, there is not no distance
  least_walk : (a b most : ℕ) (xs : List ℕ) → length xs < most → IsWalk joins a xs b → ((e : ℕ) → IsDistance joins a b e → ⊥) → ⊥
  least_walk a b zero xs few walk none = omega (arith, few)
  least_walk a b (suc most) xs few walk none = none (length xs) (record {
    walk = (xs, (refl, walk));
    least = λ ys other. ⊎_elim (λ less. absurd (least_walk a b most ys (omega (arith, less, few)) other none)) (λ no_less. no_less) (cases_lt (length ys) (length xs));
  })

  -- next hops walk
  way_walk : (x w : ℕ) (ws : List ℕ) → w < switch_count t → x < switch_count t → Way t x w ws → IsWalk joins w ws x
  way_walk x w ws lw lx here = refl
  way_walk x w ws lw lx (on away rest) = ((hops w x lw lx (λ e. away e)).neighbour, way_walk x (next t w x) _ (next_below t two.form w x lw) lx rest)

  some_distance : (a b : ℕ) → a < switch_count t → b < switch_count t → ((e : ℕ) → IsDistance joins a b e → ⊥) → ⊥
  some_distance a b la lb none =
      let way = way_to t (two.valid Loop) two.form a b la lb in
      least_walk a b (suc (length way.0)) way.0 (omega arith) (way_walk b a way.0 la lb way.1) none

  none_left : (most a b : ℕ) → a ≡ b → hops_within t most a b ≡ 0
  none_left zero a b e = refl
  none_left (suc most) a b e = cond-true _ _ _ (eq-eqb a b e)

  -- from the neighbour where a least walk begins it is one shorter
  shorter : (a b e : ℕ) → IsDistance joins a b e → a ≢ b → (x : ℕ) × (c : ℕ) × joins a x × IsDistance joins x b c × (c + 1 ≡ e)
  shorter a b e is away = by is.walk.0 is.walk.1.0 is.walk.1.1
    where
      by : (xs : List ℕ) → length xs ≡ e → IsWalk joins a xs b → (x : ℕ) × (c : ℕ) × joins a x × IsDistance joins x b c × (c + 1 ≡ e)
      by [] long walk = absurd (away walk)
      by (x ∷ ys) long walk = (x, length ys, walk.0, record { walk = (ys, (refl, walk.1)); least = λ zs other. (let l = is.least (x ∷ zs) (walk.0, other) in omega (arith, l, long)) }, (let l : suc (length ys) ≡ e = long in omega (arith, l)))

  abbrev Shorter : ℕ → ℕ → ℕ → Type 0
  Shorter most a b = (c : ℕ) → c < most → next t a b < switch_count t → IsDistance joins (next t a b) b c → distance t (next t a b) b ≤ c

  -- next hops are no longer than the distance
  no_longer : (most e a b : ℕ) → e < most → a < switch_count t → b < switch_count t → IsDistance joins a b e → distance t a b ≤ e
  no_longer zero e a b few la lb is = absurd (omega (arith, few))
  no_longer (suc most) e a b few la lb is = by (λ c low y dist. no_longer most c (next t a b) b low y lb dist) (nat_eq a b) refl
    where
      far : Shorter most a b → a ≢ b → e < distance t a b → ⊥
      far less_far away l =
          let x = shorter a b e is away in
          let near = hops a b la lb away in
          let y = next_below t two.form a b la in
          some_distance (next t a b) b y lb (λ c dist.
          (let less = near.nearest x.0 c x.1 x.2 dist x.3 in
          let one = x.4 in
          let on = less_far c (omega (arith, less, one, few)) y dist in
          let step = nearer t two.valid two.form a b la lb (λ s. away (sym s)) in
          omega (arith, less, one, on, step, l)))

      by : Shorter most a b → (c : Bool) → nat_eq a b ≡ c → distance t a b ≤ e
      by less_far true same = let z = none_left (switch_count t) a b (eqb-true a b same) in omega (arith, z)
      by less_far false other = ⊎_elim (λ l. absurd (far less_far (eqb-false a b other) l)) (λ l. l) (cases_lt e (distance t a b))

  -- the distance, and 0 for what is no switch
  pub near : ℕ → ℕ → ℕ
  near a b = cond (nat_lt a (switch_count t) && nat_lt b (switch_count t)) (distance t a b) 0

  near_is : (a b : ℕ) → a < switch_count t → b < switch_count t → near a b ≡ distance t a b
  unfolding near
  near_is a b x y =
      ap (λ c. cond (c && nat_lt b (switch_count t)) (distance t a b) 0) (lt-ltb a (switch_count t) x)
      ∙ ap (λ c. cond c (distance t a b) 0) (lt-ltb b (switch_count t) y)

  module _ (d : ℕ) (diameter : IsDiameter joins (switch_count t) d) where
    at_most : (a b : ℕ) → a < switch_count t → b < switch_count t → distance t a b ≤ d
    at_most a b la lb =
        ⊎_elim
        (λ l. absurd (some_distance a b la lb (λ e is. (let x = no_longer (suc e) e a b (omega arith) la lb is in let y = diameter.greatest a b e la lb is in omega (arith, x, y, l)))))
        (λ l. l)
        (cases_lt d (distance t a b))

    near_most : (a b : ℕ) → near a b ≤ d
    unfolding near
    near_most a b = by (nat_lt a (switch_count t) && nat_lt b (switch_count t)) refl
      where
        by : (c : Bool) → (nat_lt a (switch_count t) && nat_lt b (switch_count t)) ≡ c → cond (nat_lt a (switch_count t) && nat_lt b (switch_count t)) (distance t a b) 0 ≤ d
        by true e =
            let both = and_parts (nat_lt a (switch_count t)) (nat_lt b (switch_count t)) e in
            subst (λ z. z ≤ d) (sym (cond-true _ _ _ e)) (at_most a b (ltb-true a (switch_count t) both.0) (ltb-true b (switch_count t) both.1))
        by false e = subst (λ z. z ≤ d) (sym (cond-false _ _ _ e)) (omega arith)

    pub distances : HasDistances t near d
    distances = record {
      most = near_most;
      next = λ w x lw lx away.
          (let y = next_below t two.form w x lw in
          let step = nearer t two.valid two.form w x lw lx (λ s. away (sym s)) in
          let a = near_is (next t w x) x y lx in
          let b = near_is w x lw lx in
          (y, omega (arith, step, a, b)));
      owners = λ r x e. owner_below t two.form r x e;
      ports = λ p x e. port_below t two.form p x e;
    }
