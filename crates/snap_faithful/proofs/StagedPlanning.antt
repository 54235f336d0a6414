-- Tables on demand are valid, and their nodes are the given ones with stages.
use Rattle.std.proofs.Common.{◌≡◌, ◌≢◌, ℕ, zero, suc, ◌<◌, inl, inr, Bool, true, false, cond, List, [], ◌∷◌, Option, Some, None, refl, sym, ap, subst, ◌∙◌, arith, ◌&&◌}
use Rattle.std.specs.Prelude.{slice_get, nat_eq, IsSome, unwrap_or, option_map}
use Rattle.std.proofs.lemmas.Bool.{both_ways, eqb-true, eqb-false, false≢true}
use Rattle.std.proofs.lemmas.Option.{none-some, same_Some}
use Rattle.snap_core.specs.declared.ports.PortAt.{PortAt}
use Rattle.snap_core.specs.declared.policy.Test.{Test}
use Rattle.snap_rows.specs.declared.tables.ArrayAt.{ArrayAt}
use Rattle.snap_rows.specs.declared.tables.RowAt.{RowAt}
use Rattle.snap_rows.specs.declared.tables.Tables.{Tables}
use Rattle.snap_rows.specs.declared.tables.Rule.{Rule}
use Rattle.snap_rows.specs.declared.tables.Rule.TheVariants.{Link, Loop, Kind, Owner, Rise, Order, Missing, Spare}
use Rattle.snap_rows.specs.declared.tables.Spot.TheVariants as spot
use Rattle.snap_rows.specs.declared.tables.Row.{Row}
use Rattle.snap_rows.specs.declared.tables.Row.TheVariants.{Field, State, Go, Leaf, Stop, Last}
use Rattle.snap_rows.specs.Entries.{row_in, row_at, node_in, node_of, owner_of, var_of, next, is_node}
use Rattle.snap_rows.specs.Form.{IsWellFormed, IsRowAtWellFormed, switch_count, array_count}
use Rattle.snap_rows.specs.Rules.{IsValid, IsKind1, IsAtOwner, Rises, RowKeeps, HopKeeps, PortKeeps, ArrayKeeps}
use Rattle.snap_rows.proofs.Rows.{entry_of, node_entry, row_form, All-get}
use Rattle.snap_rows.proofs.Later.{var_array}
use Rattle.snap_faithful.specs.Planned.{IsNodeKind, AreHops}
use Rattle.snap_faithful.specs.OnDemand.{stages_of, staged, row_on, place_of, HasNodes, AreOnDemand, OnDemandIsValid}
use Rattle.snap_faithful.proofs.Stages.{stages_own}
use Rattle.snap_faithful.proofs.Planning.{hop_keeps, if_there}

-- where a row of a number is a node there is a node of it
node_some : (rs : List RowAt) (w n : ℕ) (b : Row) → row_in rs w n ≡ Some b → is_node b ≡ true → (c : Row) × (node_in rs n ≡ Some c)
node_some [] w n b e is = absurd (none-some b e)
node_some (r ∷ rs) w n b e is = by (nat_eq r.at w) (nat_eq r.number n) (is_node r.row) refl e (node_some rs w n b)
  where
    by : (p q s : Bool) → is_node r.row ≡ s → cond (p && q) (Some r.row) (row_in rs w n) ≡ Some b → (row_in rs w n ≡ Some b → is_node b ≡ true → (c : Row) × (node_in rs n ≡ Some c))
        → (c : Row) × (cond (q && s) (Some r.row) (node_in rs n) ≡ Some c)
    by p true true f e more = (r.row, refl)
    by true true false f e more = absurd (both_ways _ f (ap is_node (same_Some r.row b e) ∙ is))
    by false true false f e more = more e is
    by true false s f e more = more e is
    by false false s f e more = more e is

module _ (t : Tables) (nodes : ℕ → Option Row) (form : IsWellFormed t) (one : t.version ≡ 1) (good : HasNodes t nodes) (hops : AreHops t) (plan : AreOnDemand t nodes) where
  abbrev at : ℕ → ℕ
  at = place_of t

  not_two : {A : Type 0} → t.version ≡ 2 → A
  not_two e = absurd (let f = one in omega (arith, e, f))

  owned : (v : ℕ) → v < array_count t → owner_of t v ≡ Some (place_of t v)
  owned v l =
      let a = var_array t v l in
      let is : owner_of t v ≡ Some a.0.at = ap (option_map (λ (a : ArrayAt). a.at)) a.1 in
      is ∙ ap Some (sym (ap (λ o. unwrap_or o 0) is))

  row_low : (w n : ℕ) (b : Row) → row_at t w n ≡ Some b → w < switch_count t
  row_low w n b row = let i = entry_of t.rows w n b row in subst (λ x. x < switch_count t) i.at (All-get (IsRowAtWellFormed t) t.rows i.place i.entry form.rows i.is).at

  -- a row that is a node is the staged one
  node_row : (w : ℕ) (c : Row) → IsNodeKind c → is_node (row_on at w c) ≡ true → row_on at w c ≡ staged at c
  node_row w (Field test y z) kind is = refl
  node_row w (State test y z) kind is = by (nat_eq (at (var_of test)) w) is
    where
      by : (b : Bool) → is_node (cond b (State test y z) (Go (at (var_of test)))) ≡ true → cond b (State test y z) (Go (at (var_of test))) ≡ State test y z
      by true is = refl
      by false is = absurd (both_ways _ refl is)
  node_row w (Last us os) kind is = refl
  node_row w (Go x) kind is = absurd kind
  node_row w (Leaf ss os) kind is = absurd kind
  node_row w Stop kind is = absurd kind

  -- the node of a number in the tables
  pub node_back : (n : ℕ) (b : Row) → node_of t n ≡ Some b → (c : Row) × (nodes n ≡ Some c) × (b ≡ staged at c)
  node_back n b node =
      let i = node_entry t.rows n b node in
      let row : row_at t i.entry.at n ≡ Some b = subst (λ x. row_at t i.entry.at x ≡ Some b) i.number (plan.once i.place i.entry i.is ∙ ap Some i.body) in
      let c = plan.bodies i.entry.at n b row in
      (c.0, c.1, c.2 ∙ node_row i.entry.at c.0 (good.kinds n c.0 c.1) (sym (ap is_node c.2) ∙ i.node))

  pub is_node_of : (w n : ℕ) (b : Row) → row_at t w n ≡ Some b → is_node b ≡ true → node_of t n ≡ Some b
  is_node_of w n b row is =
      let s = node_some t.rows w n b row is in
      let c = node_back n s.0 s.1 in
      let d = plan.bodies w n b row in
      let same : c.0 ≡ d.0 = same_Some c.0 d.0 (sym c.1 ∙ d.1) in
      s.1 ∙ ap Some (c.2 ∙ ap (staged at) same ∙ sym (d.2 ∙ node_row w d.0 (good.kinds n d.0 d.1) (sym (ap is_node d.2) ∙ is)))

  -- ---- the way to a state row
  pub state_there : (fuel w n x : ℕ) (test : Test) (y z : ℕ) → hops.distance w x < fuel → x < switch_count t → w ≢ x → nodes n ≡ Some (State test y z) → at (var_of test) ≡ x → row_at t w n ≡ Some (Go x) → row_at t x n ≡ Some (State test y z)
  state_there zero w n x test y z l low apart node own row = absurd (omega (arith, l))
  state_there (suc fuel) w n x test y z l low apart node own row = by (row_at t (next t w x) n) refl (plan.leads w n (next t w x) n (Go x) row (refl, refl)) (λ f a r. state_there fuel (next t w x) n x test y z f low a node own r)
    where
      near : (next t w x < switch_count t) × (hops.distance (next t w x) x < hops.distance w x)
      near = hops.nearer w x (row_low w n (Go x) row) low apart

      side' : (c : Bool) → nat_eq (at (var_of test)) (next t w x) ≡ c → row_at t (next t w x) n ≡ Some (cond c (State test y z) (Go (at (var_of test))))
          → (hops.distance (next t w x) x < fuel → next t w x ≢ x → row_at t (next t w x) n ≡ Some (Go x) → row_at t x n ≡ Some (State test y z)) → row_at t x n ≡ Some (State test y z)
      side' true e row' go = subst (λ v. row_at t v n ≡ Some (State test y z)) (sym (eqb-true (at (var_of test)) (next t w x) e) ∙ own) row'
      side' false e row' go = go (let a = near.1 in omega (arith, a, l)) (λ same. eqb-false (at (var_of test)) (next t w x) e (own ∙ sym same)) (row' ∙ ap (λ v. Some (Go v)) own)

      by : (o : Option Row) → row_at t (next t w x) n ≡ o → IsSome o → (hops.distance (next t w x) x < fuel → next t w x ≢ x → row_at t (next t w x) n ≡ Some (Go x) → row_at t x n ≡ Some (State test y z)) → row_at t x n ≡ Some (State test y z)
      by None e is go = absurd (false≢true is)
      by (Some b) e is go =
          let c = plan.bodies (next t w x) n b e in
          let same : c.0 ≡ State test y z = same_Some c.0 (State test y z) (sym c.1 ∙ node) in
          side' (nat_eq (at (var_of test)) (next t w x)) refl (e ∙ ap Some (c.2 ∙ ap (row_on at (next t w x)) same)) go

  -- ---- the rules
  kind : (w n : ℕ) (b : Row) → row_at t w n ≡ Some b → IsKind1 t w n b
  kind w n b row = subst (IsKind1 t w n) (sym d.2) (by d.0 d.1 (row ∙ ap Some d.2))
    where
      d : (c : Row) × (nodes n ≡ Some c) × (b ≡ row_on at w c)
      d = plan.bodies w n b row

      by : (c : Row) → nodes n ≡ Some c → row_at t w n ≡ Some (row_on at w c) → IsKind1 t w n (row_on at w c)
      by (Field test y z) node row = is_node_of w n (Field test y z) row refl
      by (State test y z) node row = stands (nat_eq (at (var_of test)) w) refl row
        where
          stands : (c : Bool) → nat_eq (at (var_of test)) w ≡ c → row_at t w n ≡ Some (cond c (State test y z) (Go (at (var_of test)))) → IsKind1 t w n (cond c (State test y z) (Go (at (var_of test))))
          stands true e row = is_node_of w n (State test y z) row refl
          stands false e row =
              let apart : at (var_of test) ≢ w = eqb-false (at (var_of test)) w e in (
                apart,
                (
                  State test y z,
                  state_there (suc (hops.distance w (at (var_of test)))) w n (at (var_of test)) test y z (omega arith)
                      (row_form t form w n (Go (at (var_of test))) row).1 (λ same. apart (sym same)) node refl row,
                  tt,
                ),
              )
      by (Last us os) node row = is_node_of w n (Leaf (stages_of at us) os) row refl
      by (Go x) node row = absurd (good.kinds n (Go x) node)
      by (Leaf ss os) node row = absurd (good.kinds n (Leaf ss os) node)
      by Stop node row = absurd (good.kinds n Stop node)

  at_owner : (w n : ℕ) (b : Row) → row_at t w n ≡ Some b → IsAtOwner t w b
  at_owner w n b row = subst (IsAtOwner t w) (sym d.2) (by d.0 d.1 (row ∙ ap Some d.2))
    where
      d : (c : Row) × (nodes n ≡ Some c) × (b ≡ row_on at w c)
      d = plan.bodies w n b row

      by : (c : Row) → nodes n ≡ Some c → row_at t w n ≡ Some (row_on at w c) → IsAtOwner t w (row_on at w c)
      by (Field test y z) node row = tt
      by (State test y z) node row = stands (nat_eq (at (var_of test)) w) refl
        where
          stands : (c : Bool) → nat_eq (at (var_of test)) w ≡ c → IsAtOwner t w (cond c (State test y z) (Go (at (var_of test))))
          stands true e = owned (var_of test) (good.arrays n test y z node) ∙ ap Some (eqb-true (at (var_of test)) w e)
          stands false e = tt
      by (Last us os) node row =
          λ i d l.
          (λ j u m.
          owned _ ((((row_form t form w n (Leaf (stages_of at us) os) row).2 i d l).each j u m).fits.var)
          ∙ ap Some (stages_own at us i d l j u m))
      by (Go x) node row = absurd (good.kinds n (Go x) node)
      by (Leaf ss os) node row = absurd (good.kinds n (Leaf ss os) node)
      by Stop node row = absurd (good.kinds n Stop node)

  rises : (w n : ℕ) (b : Row) → row_at t w n ≡ Some b → Rises n b
  rises w n b row = subst (Rises n) (sym d.2) (by d.0 d.1)
    where
      d : (c : Row) × (nodes n ≡ Some c) × (b ≡ row_on at w c)
      d = plan.bodies w n b row

      by : (c : Row) → nodes n ≡ Some c → Rises n (row_on at w c)
      by (Field test y z) node = ((good.ways n y (Field test y z) node (inl refl)).0, (good.ways n z (Field test y z) node (inr refl)).0)
      by (State test y z) node = stands (nat_eq (at (var_of test)) w)
        where
          stands : (c : Bool) → Rises n (cond c (State test y z) (Go (at (var_of test))))
          stands true = ((good.ways n y (State test y z) node (inl refl)).0, (good.ways n z (State test y z) node (inr refl)).0)
          stands false = tt
      by (Last us os) node = tt
      by (Go x) node = absurd (good.kinds n (Go x) node)
      by (Leaf ss os) node = absurd (good.kinds n (Leaf ss os) node)
      by Stop node = absurd (good.kinds n Stop node)

  port_keeps : (rule : Rule) (i : ℕ) (p : PortAt) → slice_get t.ports i ≡ Some p → PortKeeps t rule p
  port_keeps Missing i p e = plan.ports i p e
  port_keeps Link i p e = tt
  port_keeps Loop i p e = tt
  port_keeps Kind i p e = tt
  port_keeps Owner i p e = tt
  port_keeps Rise i p e = tt
  port_keeps Order i p e = tt
  port_keeps Spare i p e = tt

  row_keeps : (rule : Rule) (w n : ℕ) (b : Row) → row_at t w n ≡ Some b → RowKeeps t rule w n b
  row_keeps Link w n b row = tt
  row_keeps Loop w n b row = tt
  row_keeps Kind w n b row = (λ e. kind w n b row, λ e. not_two e)
  row_keeps Owner w n b row = λ e. at_owner w n b row
  row_keeps Rise w n b row = rises w n b row
  row_keeps Order w n b row = λ e. not_two e
  row_keeps Missing w n b row = λ x k leads. plan.leads w n x k b row leads
  row_keeps Spare w n b row = plan.least w n b row

  array_keeps : (rule : Rule) (i : ℕ) (a : ArrayAt) → slice_get t.arrays i ≡ Some a → ArrayKeeps t rule i a
  array_keeps Owner i a e = λ two. not_two two
  array_keeps Link i a e = tt
  array_keeps Loop i a e = tt
  array_keeps Kind i a e = tt
  array_keeps Rise i a e = tt
  array_keeps Order i a e = tt
  array_keeps Missing i a e = tt
  array_keeps Spare i a e = tt

  pub planned_valid : IsValid t
  planned_valid rule (spot.Hop i) = if_there (slice_get t.hops i) (HopKeeps t rule) (λ h e. hop_keeps t hops rule i h e)
  planned_valid rule (spot.Port i) = if_there (slice_get t.ports i) (PortKeeps t rule) (λ p e. port_keeps rule i p e)
  planned_valid rule (spot.Row i) = if_there (slice_get t.rows i) (λ (r : RowAt). RowKeeps t rule r.at r.number r.row) (λ r e. row_keeps rule r.at r.number r.row (plan.once i r e))
  planned_valid rule (spot.Array i) = if_there (slice_get t.arrays i) (ArrayKeeps t rule i) (λ a e. array_keeps rule i a e)

pub on_demand_is_valid : OnDemandIsValid
on_demand_is_valid t nodes form one good hops plan = planned_valid t nodes form one good hops plan
