-- Distances of a topology, as next hops of tables see them.
use Rattle.std.proofs.Common.{◌≡◌, ◌≢◌, ℕ, suc, ◌<◌, ◌≤◌, inl, inr, Bool, true, false, cond, List, [], ◌∷◌, length, Some, refl, sym, ap, subst, ◌∙◌, arith, ◌&&◌}
use Rattle.std.specs.Prelude.{nat_eq, nat_lt, slice_get}
use Rattle.std.specs.List.{All}
use Rattle.std.proofs.lemmas.Bool.{lt-ltb, ltb-true, cond-true, cond-false, and_parts}
use Rattle.std.proofs.lemmas.List.Elements.{All-head, All-tail, All-contains}
use Rattle.std.proofs.lemmas.Option.{none-some, same_Some}
use Rattle.snap_core.specs.declared.ports.PortAt.{PortAt}
use Rattle.snap_topology.specs.declared.topology.Topology.{Topology}
use Rattle.snap_topology.specs.Form as topo
use Rattle.snap_topology.specs.Walks.{Linked, IsWalk, IsNext, IsDiameter}
use Rattle.snap_topology.specs.Tables.{Table, AreRoutes, distance_of}
use Rattle.snap_rows.specs.declared.tables.ArrayAt.{ArrayAt}
use Rattle.snap_rows.specs.declared.tables.Tables.{Tables}
use Rattle.snap_core.specs.Ports.{port_in}
use Rattle.snap_rows.specs.Entries.{next, ranks_in}
use Rattle.snap_rows.specs.Form.{IsWellFormed, IsPortWellFormed, switch_count}
use Rattle.snap_rows.proofs.Arrives.{owner_below}
use Rattle.snap_faithful.proofs.Bounds.{HasDistances}

-- the distance, and 0 for what is no switch
pub far : Table → ℕ → ℕ → ℕ → ℕ
far routes n a b = cond (nat_lt a n && nat_lt b n) (distance_of routes a b) 0

module _ (topology : Topology) (form : topo.IsWellFormed topology) (routes : Table) (paths : AreRoutes topology routes) where
  pub linked_below : (a b : ℕ) → Linked topology.links a b → b < length topology.switches
  linked_below a b (inl c) = (All-contains (topo.IsLink (length topology.switches)) topology.links (a, b) form.links c).below
  linked_below a b (inr c) = let l = All-contains (topo.IsLink (length topology.switches)) topology.links (b, a) form.links c in let x = l.lesser in let y = l.below in omega (arith, x, y)

  far_is : (a b : ℕ) → a < length topology.switches → b < length topology.switches → far routes (length topology.switches) a b ≡ distance_of routes a b
  unfolding far
  far_is a b x y =
      ap (λ c. cond (c && nat_lt b (length topology.switches)) (distance_of routes a b) 0) (lt-ltb a (length topology.switches) x)
      ∙ ap (λ c. cond c (distance_of routes a b) 0) (lt-ltb b (length topology.switches) y)

  far_most : (d : ℕ) → IsDiameter (Linked topology.links) (length topology.switches) d → (a b : ℕ) → far routes (length topology.switches) a b ≤ d
  unfolding far
  far_most d diameter a b = by (nat_lt a (length topology.switches) && nat_lt b (length topology.switches)) refl
    where
      by : (c : Bool) → (nat_lt a (length topology.switches) && nat_lt b (length topology.switches)) ≡ c → cond (nat_lt a (length topology.switches) && nat_lt b (length topology.switches)) (distance_of routes a b) 0 ≤ d
      by true e =
          let both = and_parts (nat_lt a (length topology.switches)) (nat_lt b (length topology.switches)) e in
          let x = ltb-true a (length topology.switches) both.0 in
          let y = ltb-true b (length topology.switches) both.1 in
          subst (λ z. z ≤ d) (sym (cond-true _ _ _ e)) (diameter.greatest a b (distance_of routes a b) x y (paths.distances a b x y))
      by false e = subst (λ z. z ≤ d) (sym (cond-false _ _ _ e)) (omega arith)

  -- a neighbour on a least walk is nearer
  pub nearer : (a b : ℕ) → a < length topology.switches → b < length topology.switches → a ≢ b → (y : ℕ) × Linked topology.links a y × (distance_of routes y b < distance_of routes a b)
  nearer a b la lb apart = by (paths.distances a b la lb).walk.0 (paths.distances a b la lb).walk.1.0 (paths.distances a b la lb).walk.1.1
    where
      by : (xs : List ℕ) → length xs ≡ distance_of routes a b → IsWalk (Linked topology.links) a xs b → (y : ℕ) × Linked topology.links a y × (distance_of routes y b < distance_of routes a b)
      by [] e walk = absurd (apart walk)
      by (y ∷ ys) e walk =
          let low = linked_below a y walk.0 in
          let least = (paths.distances y b low lb).least ys walk.1 in
          (y, walk.0, omega (arith, e, least))

  pub next_nearer : (a b x : ℕ) → a < length topology.switches → b < length topology.switches → a ≢ b → IsNext (Linked topology.links) a b x
      → (x < length topology.switches) × (far routes (length topology.switches) x b < far routes (length topology.switches) a b)
  next_nearer a b x la lb apart is =
      let lx = linked_below a x is.neighbour in
      let y = nearer a b la lb apart in
      let ly = linked_below a y.0 y.1 in
      let near = is.nearest y.0 (distance_of routes x b) (distance_of routes y.0 b) y.1 (paths.distances x b lx lb) (paths.distances y.0 b ly lb) in
      let e = far_is x b lx lb in let f = far_is a b la lb in let g = y.2 in
      (lx, omega (arith, near, e, f, g))

  pub distances : (t : Tables) → IsWellFormed t → switch_count t ≡ length topology.switches
      → ((a b : ℕ) → a < length topology.switches → b < length topology.switches → a ≢ b → IsNext (Linked topology.links) a b (next t a b))
      → (d : ℕ) → IsDiameter (Linked topology.links) (length topology.switches) d → HasDistances t (far routes (length topology.switches)) d
  distances t inform count hops d diameter = record {
    most = far_most d diameter;
    next = λ w x lw lx apart.
        (let lw' = subst (λ s. w < s) count lw in let lx' = subst (λ s. x < s) count lx in
        let r = next_nearer w x (next t w x) lw' lx' apart (hops w x lw' lx' apart) in
        (subst (λ s. next t w x < s) (sym count) r.0, r.1));
    owners = λ r x e. owner_below t inform r x e;
    ports = λ p x e. port_below t t.ports inform.ports p x e;
  }
    where
      port_below : (t : Tables) (qs : List PortAt) → All (IsPortWellFormed t) qs → (p x : ℕ) → port_in qs p ≡ Some x → x < switch_count t
      port_below t [] all p x e = absurd (none-some x e)
      port_below t (q ∷ qs) all p x e = by (nat_eq q.port p) refl (port_below t qs (All-tail (IsPortWellFormed t) q qs all) p x)
        where
          by : (c : Bool) → nat_eq q.port p ≡ c → (port_in qs p ≡ Some x → x < switch_count t) → x < switch_count t
          by true is rest = subst (λ y. y < switch_count t) (same_Some q.at x (sym (cond-true _ _ _ is) ∙ e)) (All-head (IsPortWellFormed t) q qs all).at
          by false isnt rest = rest (sym (cond-false _ _ _ isnt) ∙ e)

-- the number of ranks is at most a bound of all ranks
pub ranks_few : (arrays : List ArrayAt) (g : ℕ) → ((i : ℕ) (a : ArrayAt) → slice_get arrays i ≡ Some a → a.rank < g) → ranks_in arrays ≤ g
ranks_few [] g each = omega arith
ranks_few (a ∷ rest) g each = let x = each 0 a refl in let y = ranks_few rest g (λ i b e. each (suc i) b e) in omega (arith, x, y)
