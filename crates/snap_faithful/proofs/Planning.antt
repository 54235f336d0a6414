-- Planned tables are valid.
use Rattle.std.proofs.Common.{◌≡◌, ◌≢◌, ℕ, zero, suc, ◌+◌, ◌-◌, ◌<◌, ◌≤◌, ◌⊎◌, inl, inr, ⊎_elim, Bool, true, false, ◌&&◌, cond, List, [], ◌∷◌, get_or, Option, Some, None, refl, sym, ap, subst, ◌∙◌, arith}
use Rattle.std.specs.Prelude.{slice_get, nat_eq, nat_le, IfSome, IsSome, option_map, Contains, ◌||◌}
use Rattle.std.specs.List.{All, list_any}
use Rattle.std.proofs.lemmas.List.Elements.{All-take}
use Rattle.std.proofs.lemmas.Bool.{eqb-true, eqb-false, eq-eqb, le-leb, leb-true, and_parts, cond-true, both_ways, false≢true, and_from}
use Rattle.std.proofs.lemmas.Option.{none-some, same_Some, slice_get_within, slice_get-get_or, get_or_from_slice_get}
use Rattle.std.proofs.lemmas.Map.Keys.{any_passes_from_place}
use Rattle.snap_core.specs.declared.ports.PortAt.{PortAt}
use Rattle.snap_core.specs.declared.policy.Test.{Test}
use Rattle.snap_rows.specs.declared.tables.ArrayAt.{ArrayAt}
use Rattle.snap_rows.specs.declared.tables.Hop.{Hop}
use Rattle.snap_rows.specs.declared.tables.RowAt.{RowAt}
use Rattle.snap_rows.specs.declared.tables.Tables.{Tables}
use Rattle.snap_rows.specs.declared.tables.Rule.{Rule}
use Rattle.snap_rows.specs.declared.tables.Rule.TheVariants.{Link, Loop, Kind, Owner, Rise, Order, Missing, Spare}
use Rattle.snap_rows.specs.declared.tables.Spot.TheVariants as spot
use Rattle.snap_rows.specs.declared.tables.Row.{Row}
use Rattle.snap_rows.specs.declared.tables.Row.TheVariants.{Field, State, Go, Leaf, Stop, Last}
use Rattle.snap_rows.specs.Entries.{row_at, row_in, node_of, node_in, next, owner_of, rank_of, rank_at, ranks, var_of, is_node}
use Rattle.snap_rows.specs.Form.{switch_count}
use Rattle.snap_rows.specs.Ways.{Way, LeadsTo, Reached, port, lead}
use Rattle.snap_rows.specs.Ways as ways
use Rattle.snap_rows.specs.Rules.{IsValid, RowKeeps, HopKeeps, PortKeeps, ArrayKeeps, IsKind2, IsDue, HoldsUpTo, Rises, IsInOrder, MayFollow, IsFieldRow, IsLinked}
use Rattle.snap_rows.proofs.Rows.{node_entry}
use Rattle.snap_rows.proofs.Own.{rank_entry}
use Rattle.snap_rows.proofs.Later.{var_array, ranks_above, not_one, rank_is_below}
use Rattle.snap_rows.specs.Leads.{IsNumberAfter}
use Rattle.snap_faithful.specs.Planned.{has_port, has_ports, holds, row_for, IsNodeKind, IsFront, AreNodes, ArePlaced, AreHops, ArePlanned, PlannedIsValid}

-- ---- lists

some_at : {X : Type 0} (p : X → Bool) (xs : List X) → list_any p xs ≡ true → (i : ℕ) × (x : X) × (slice_get xs i ≡ Some x) × (p x ≡ true)
some_at p [] e = absurd (false≢true e)
some_at p (y ∷ xs) e = by (p y) refl (some_at p xs)
  where
    by : (b : Bool) → p y ≡ b → (list_any p xs ≡ true → (i : ℕ) × (x : _) × (slice_get xs i ≡ Some x) × (p x ≡ true)) → (i : ℕ) × (x : _) × (slice_get (y ∷ xs) i ≡ Some x) × (p x ≡ true)
    by true f rest = (0, y, refl, f)
    by false f rest = let r = rest (sym (ap (λ b. b || list_any p xs) f) ∙ e) in (suc r.0, r.1, r.2, r.3)

some_of : {X : Type 0} (o : Option X) → o ≢ None → (x : X) × (o ≡ Some x)
some_of None e = absurd (e refl)
some_of (Some x) e = (x, refl)

is_there : {X : Type 0} (o : Option X) (x : X) → o ≡ Some x → IsSome o
is_there o x e = subst (λ o. IsSome o) (sym e) refl

node_found : (rs : List RowAt) (w n : ℕ) (b : Row) → row_in rs w n ≡ Some b → is_node b ≡ true → node_in rs n ≢ None
node_found [] w n b e inner = absurd (none-some b e)
node_found (r ∷ rs) w n b e inner = by (nat_eq r.at w) (nat_eq r.number n) (is_node r.row) refl refl refl (node_found rs w n b)
  where
    by : (s u v : Bool) → nat_eq r.at w ≡ s → nat_eq r.number n ≡ u → is_node r.row ≡ v → (row_in rs w n ≡ Some b → is_node b ≡ true → node_in rs n ≢ None) → cond (nat_eq r.number n && is_node r.row) (Some r.row) (node_in rs n) ≢ None
    by s true true p q h rest = λ none. none-some r.row (sym none ∙ ap (λ c. cond (c && is_node r.row) (Some r.row) (node_in rs n)) q ∙ ap (λ c. cond c (Some r.row) (node_in rs n)) h)
    by true true false p q h rest =
        absurd (both_ways (is_node b) (ap is_node (same_Some b r.row (sym e ∙ ap (λ c. cond (c && nat_eq r.number n) (Some r.row) (row_in rs w n)) p ∙ ap (λ c. cond c (Some r.row) (row_in rs w n)) q)) ∙ h) inner)
    by false true false p q h rest = λ none. rest (sym (ap (λ c. cond (c && nat_eq r.number n) (Some r.row) (row_in rs w n)) p) ∙ e) inner (sym (ap (λ c. cond (c && is_node r.row) (Some r.row) (node_in rs n)) q ∙ ap (λ c. cond c (Some r.row) (node_in rs n)) h) ∙ none)
    by true false v p q h rest = λ none. rest (sym (ap (λ c. cond (c && nat_eq r.number n) (Some r.row) (row_in rs w n)) p ∙ ap (λ c. cond c (Some r.row) (row_in rs w n)) q) ∙ e) inner (sym (ap (λ c. cond (c && is_node r.row) (Some r.row) (node_in rs n)) q) ∙ none)
    by false false v p q h rest = λ none. rest (sym (ap (λ c. cond (c && nat_eq r.number n) (Some r.row) (row_in rs w n)) p) ∙ e) inner (sym (ap (λ c. cond (c && is_node r.row) (Some r.row) (node_in rs n)) q) ∙ none)

pub if_there : {X : Type 0} (o : Option X) (P : X → Type 0) → ((x : X) → o ≡ Some x → P x) → IfSome o P
if_there None P h = tt
if_there (Some x) P h = h x refl

-- ---- next hops
module _ (t : Tables) (hops : AreHops t) where
  a_way : (fuel a b : ℕ) → hops.distance a b < fuel → a < switch_count t → b < switch_count t → (c : Bool) → nat_eq a b ≡ c → (ws : List ℕ) × Way t b a ws
  a_way fuel a b l x y true e = ([], subst (λ z. Way t z a []) (eqb-true a b e) ways.here)
  a_way zero a b l x y false e = absurd (omega (arith, l))
  a_way (suc fuel) a b l x y false e =
      let apart = eqb-false a b e in
      let near = hops.nearer a b x y apart in
      let rest = a_way fuel (next t a b) b (let n = near.1 in omega (arith, l, n)) near.0 y (nat_eq (next t a b) b) refl in
      (next t a b ∷ rest.0, ways.on apart rest.1)

  pub hop_keeps : (rule : Rule) (i : ℕ) (h : Hop) → slice_get t.hops i ≡ Some h → HopKeeps t rule h
  hop_keeps Link i h e = let k = hops.each i h e in subst (IsLinked t h.from) k.2 (hops.linked h.from h.target k.0 k.1 k.3)
  hop_keeps Loop i h e = let k = hops.each i h e in a_way (suc (hops.distance h.from h.target)) h.from h.target (omega arith) k.0 k.1 (nat_eq h.from h.target) refl
  hop_keeps Kind i h e = tt
  hop_keeps Owner i h e = tt
  hop_keeps Rise i h e = tt
  hop_keeps Order i h e = tt
  hop_keeps Missing i h e = tt
  hop_keeps Spare i h e = tt

module _ (t : Tables) (nodes : ℕ → Option Row) (front : ℕ → Bool) (two : t.version ≡ 2) (good : AreNodes t nodes front) (placed : ArePlaced t) (hops : AreHops t) (plan : ArePlanned t nodes front) where
  -- ---- arrays and ports
  held : (w q : ℕ) → holds t w q ≡ true → (r : ℕ) × (r ≤ q) × (rank_at t r ≡ Some w)
  held w q e =
      let s = some_at (λ (a : ArrayAt). nat_eq a.at w && nat_le a.rank q) t.arrays e in
      let parts = and_parts (nat_eq s.1.at w) (nat_le s.1.rank q) s.3 in
      (s.1.rank, leb-true s.1.rank q parts.1, placed.owner s.0 s.1 s.2 ∙ ap Some (eqb-true s.1.at w parts.0))

  holds_due : (w q : ℕ) → holds t w q ≡ true → HoldsUpTo t w q
  holds_due w q e =
      let s = some_at (λ (a : ArrayAt). nat_eq a.at w && nat_le a.rank q) t.arrays e in
      let parts = and_parts (nat_eq s.1.at w) (nat_le s.1.rank q) s.3 in (
        s.0,
        ap (option_map (λ (a : ArrayAt). a.at)) s.2 ∙ ap Some (eqb-true s.1.at w parts.0),
        subst (λ x. x ≤ q) (sym (ap (λ o. Rattle.std.specs.Prelude.unwrap_or (option_map (λ (a : ArrayAt). a.rank) o) 0) s.2)) (leb-true s.1.rank q parts.1),
      )

  array_holds : (v w q : ℕ) (a : ArrayAt) → slice_get t.arrays v ≡ Some a → a.at ≡ w → a.rank ≤ q → holds t w q ≡ true
  array_holds v w q a e at l = any_passes_from_place (λ (a : ArrayAt). nat_eq a.at w && nat_le a.rank q) t.arrays v a e (and_from (nat_eq a.at w) (nat_le a.rank q) (eq-eqb a.at w at) (le-leb a.rank q l))

  rank_holds : (r x q : ℕ) → rank_at t r ≡ Some x → r ≤ q → holds t x q ≡ true
  rank_holds r x q e l = let i = rank_entry t.arrays r x e in array_holds i.place x q i.entry i.is i.at (let f = i.rank in omega (arith, f, l))

  due_holds : (w q : ℕ) → HoldsUpTo t w q → holds t w q ≡ true
  due_holds w q h = by (slice_get t.arrays h.0) refl
    where
      by : (o : Option ArrayAt) → slice_get t.arrays h.0 ≡ o → holds t w q ≡ true
      by None e = absurd (none-some w (sym (ap (option_map (λ (a : ArrayAt). a.at)) e) ∙ h.1))
      by (Some a) e = array_holds h.0 w q a e (same_Some a.at w (sym (ap (option_map (λ (a : ArrayAt). a.at)) e) ∙ h.1)) (subst (λ x. x ≤ q) (ap (λ o. Rattle.std.specs.Prelude.unwrap_or (option_map (λ (a : ArrayAt). a.rank) o) 0) e) h.2)

  more_holds : (w r q : ℕ) → r ≤ q → holds t w r ≡ true → holds t w q ≡ true
  more_holds w r q l e = let h = held w r e in rank_holds h.0 w q h.2 (let a = h.1 in omega (arith, a, l))

  ports_any : (w : ℕ) → has_port t w ≡ true → has_ports t ≡ true
  ports_any w e = let s = some_at (λ (p : PortAt). nat_eq p.at w) t.ports e in any_passes_from_place (λ (p : PortAt). true) t.ports s.0 s.1 s.2 refl

  a_port : has_ports t ≡ true → (w : ℕ) × (has_port t w ≡ true)
  a_port e = let s = some_at (λ (p : PortAt). true) t.ports e in (s.1.at, any_passes_from_place (λ (p : PortAt). nat_eq p.at s.1.at) t.ports s.0 s.1 s.2 (eq-eqb s.1.at s.1.at refl))

  at_port : (w : ℕ) → has_port t w ≡ true → (q : ℕ) × Contains t.ports (record { port = q; at = w })
  at_port w e =
      let s = some_at (λ (p : PortAt). nat_eq p.at w) t.ports e in
      let same = eqb-true s.1.at w s.3 in
      (s.1.port, (s.0, slice_get_within t.ports s.0 s.1 s.2, get_or_from_slice_get t.ports s.0 s.1 _ s.2 ∙ (λ i. record { port = s.1.port; at = same i })))

  -- ---- rows that there are

  field_row : (w n y z : ℕ) (test : Test) → nodes n ≡ Some (Field test y z) → has_port t w ≡ true → row_at t w n ≡ Some (Field test y z)
  field_row w n y z test node at = plan.rows w n ∙ ap (row_for t w (front n)) node ∙ cond-true _ _ _ at

  state_row : (w n y z : ℕ) (test : Test) → nodes n ≡ Some (State test y z) → has_ports t ≡ true → holds t w (rank_of t (var_of test)) ≡ true → row_at t w n ≡ Some (State test y z)
  state_row w n y z test node some at = plan.rows w n ∙ ap (row_for t w (front n)) node ∙ cond-true _ _ _ (and_from (has_ports t) (holds t w (rank_of t (var_of test))) some at)

  last_row : (w n : ℕ) (us : _) (os : _) → nodes n ≡ Some (Last us os) → (b : Bool) → nat_eq (ranks t) 0 ≡ b → cond b (has_port t w) (has_ports t && holds t w (ranks t)) ≡ true → row_at t w n ≡ Some (Last us os)
  last_row w n us os node b e at = plan.rows w n ∙ ap (row_for t w (front n)) node ∙ cond-true _ _ _ (ap (λ c. cond c (has_port t w) (has_ports t && holds t w (ranks t))) e ∙ at)

  last_at : (w n r : ℕ) (us : _) (os : _) → nodes n ≡ Some (Last us os) → has_ports t ≡ true → rank_at t r ≡ Some w → row_at t w n ≡ Some (Last us os)
  last_at w n r us os node some own = by (nat_eq (ranks t) 0) refl
    where
      low : r < ranks t
      low = let i = rank_entry t.arrays r w own in let l = ranks_above t.arrays i.place i.entry i.is in let e = i.rank in omega (arith, l, e)

      by : (b : Bool) → nat_eq (ranks t) 0 ≡ b → row_at t w n ≡ Some (Last us os)
      by true e = absurd (let z = eqb-true (ranks t) 0 e in let l = low in omega (arith, z, l))
      by false e = last_row w n us os node false e (and_from (has_ports t) (holds t w (ranks t)) some (rank_holds r w (ranks t) own (let l = low in omega (arith, l))))

  -- a front number has a row at each port's switch
  front_row : (w n : ℕ) → has_port t w ≡ true → IsFront nodes n → IsSome (row_at t w n)
  front_row w n at f = subst (λ o. IsSome o) (sym (plan.rows w n ∙ ap (row_for t w (front n)) f.is)) (by f.body f.no_field (good.kinds n f.body f.is) (front n) (good.is_front n f))
    where
      stops : (c g : Bool) (b : Row) → g ≡ true → IsSome (cond c (Some b) (cond (has_port t w && g) (Some Stop) None))
      stops true g b e = refl
      stops false g b e = subst (λ x. IsSome (cond x (Some Stop) None)) (sym (and_from (has_port t w) g at e)) refl

      by : (b : Row) → (IsFieldRow b → ⊥) → IsNodeKind b → (g : Bool) → g ≡ true → IsSome (row_for t w g (Some b))
      by (Field test y z) other kind g e = absurd (other tt)
      by (State test y z) other kind g e = stops (has_ports t && holds t w (rank_of t (var_of test))) g (State test y z) e
      by (Last us os) other kind g e = stops (cond (nat_eq (ranks t) 0) (has_port t w) (has_ports t && holds t w (ranks t))) g (Last us os) e
      by (Go x) other kind g e = absurd kind
      by (Leaf ss os) other kind g e = absurd kind
      by Stop other kind g e = absurd kind

  -- ---- what a row is
  data Plans (w n : ℕ) : Row → Type 0 where
    field : {test : Test} {y z : ℕ} → nodes n ≡ Some (Field test y z) → has_port t w ≡ true → Plans w n (Field test y z)
    state : {test : Test} {y z : ℕ} → nodes n ≡ Some (State test y z) → has_ports t ≡ true → holds t w (rank_of t (var_of test)) ≡ true → Plans w n (State test y z)
    last : {us : _} {os : _} → nodes n ≡ Some (Last us os) → cond (nat_eq (ranks t) 0) (has_port t w) (has_ports t && holds t w (ranks t)) ≡ true → Plans w n (Last us os)
    stops_state : {test : Test} {y z : ℕ} → nodes n ≡ Some (State test y z) → has_port t w ≡ true → front n ≡ true → holds t w (rank_of t (var_of test)) ≡ false → Plans w n Stop
    stops_last : {us : _} {os : _} → nodes n ≡ Some (Last us os) → has_port t w ≡ true → front n ≡ true → ranks t ≢ 0 → holds t w (ranks t) ≡ false → Plans w n Stop

  row_is : (w n : ℕ) (b : Row) → row_at t w n ≡ Some b → Plans w n b
  row_is w n b e = by (nodes n) refl (sym (plan.rows w n) ∙ e)
    where
      stopped : (c : Bool) → (has_port t w && front n) ≡ c → cond c (Some Stop) None ≡ Some b → ((has_port t w ≡ true) × (front n ≡ true) → Plans w n Stop) → Plans w n b
      stopped true f g make = subst (Plans w n) (same_Some Stop b g) (make (and_parts (has_port t w) (front n) f))
      stopped false f g make = absurd (none-some b g)

      field_by : (test : Test) (y z : ℕ) → nodes n ≡ Some (Field test y z) → (c : Bool) → has_port t w ≡ c → cond c (Some (Field test y z)) None ≡ Some b → Plans w n b
      field_by test y z node true f g = subst (Plans w n) (same_Some (Field test y z) b g) (field node f)
      field_by test y z node false f g = absurd (none-some b g)

      state_by : (test : Test) (y z : ℕ) → nodes n ≡ Some (State test y z) → (c : Bool) → (has_ports t && holds t w (rank_of t (var_of test))) ≡ c → cond c (Some (State test y z)) (cond (has_port t w && front n) (Some Stop) None) ≡ Some b → Plans w n b
      state_by test y z node true f g = let parts = and_parts (has_ports t) (holds t w (rank_of t (var_of test))) f in subst (Plans w n) (same_Some (State test y z) b g) (state node parts.0 parts.1)
      state_by test y z node false f g = stopped (has_port t w && front n) refl g (λ p. stops_state node p.0 p.1 (sym (ap (λ c. c && holds t w (rank_of t (var_of test))) (ports_any w p.0)) ∙ f))

      last_by : (us : _) (os : _) → nodes n ≡ Some (Last us os) → (c : Bool) → cond (nat_eq (ranks t) 0) (has_port t w) (has_ports t && holds t w (ranks t)) ≡ c → cond c (Some (Last us os)) (cond (has_port t w && front n) (Some Stop) None) ≡ Some b → Plans w n b
      last_by us os node true f g = subst (Plans w n) (same_Some (Last us os) b g) (last node f)
      last_by us os node false f g = stopped (has_port t w && front n) refl g (λ p. flat p.0 p.1 (nat_eq (ranks t) 0) refl)
        where
          flat : has_port t w ≡ true → front n ≡ true → (z : Bool) → nat_eq (ranks t) 0 ≡ z → Plans w n Stop
          flat at fr true z = absurd (both_ways (has_port t w) (sym (ap (λ c. cond c (has_port t w) (has_ports t && holds t w (ranks t))) z) ∙ f) at)
          flat at fr false z = stops_last node at fr (eqb-false (ranks t) 0 z) (sym (ap (λ c. c && holds t w (ranks t)) (ports_any w at)) ∙ sym (ap (λ c. cond c (has_port t w) (has_ports t && holds t w (ranks t))) z) ∙ f)

      by : (o : Option Row) → nodes n ≡ o → row_for t w (front n) (nodes n) ≡ Some b → Plans w n b
      by None node g = absurd (none-some b (sym (ap (row_for t w (front n)) node) ∙ g))
      by (Some (Field test y z)) node g = field_by test y z node (has_port t w) refl (sym (ap (row_for t w (front n)) node) ∙ g)
      by (Some (State test y z)) node g = state_by test y z node (has_ports t && holds t w (rank_of t (var_of test))) refl (sym (ap (row_for t w (front n)) node) ∙ g)
      by (Some (Last us os)) node g = last_by us os node (cond (nat_eq (ranks t) 0) (has_port t w) (has_ports t && holds t w (ranks t))) refl (sym (ap (row_for t w (front n)) node) ∙ g)
      by (Some (Go x)) node g = absurd (good.kinds n (Go x) node)
      by (Some (Leaf ss os)) node g = absurd (good.kinds n (Leaf ss os) node)
      by (Some Stop) node g = absurd (good.kinds n Stop node)

  -- ---- nodes
  node_of_row : (w n : ℕ) (b : Row) → Plans w n b → is_node b ≡ true → nodes n ≡ Some b
  node_of_row w n b (field node at) inner = node
  node_of_row w n b (state node some at) inner = node
  node_of_row w n b (last node at) inner = node
  node_of_row w n b (stops_state node at f h) inner = absurd (both_ways _ refl inner)
  node_of_row w n b (stops_last node at f r h) inner = absurd (both_ways _ refl inner)

  node_is : (n : ℕ) (b : Row) → node_of t n ≡ Some b → nodes n ≡ Some b
  node_is n b e =
      let i = node_entry t.rows n b e in
      let row : row_at t i.entry.at n ≡ Some b = subst (λ x. row_at t i.entry.at x ≡ Some (i.entry.row)) i.number (plan.once i.place i.entry i.is) ∙ ap Some i.body in
      node_of_row i.entry.at n b (row_is i.entry.at n b row) i.node

  is_node_of : (w n : ℕ) (b : Row) → row_at t w n ≡ Some b → is_node b ≡ true → node_of t n ≡ Some b
  is_node_of w n b row inner =
      let s = some_of (node_of t n) (node_found t.rows w n b row inner) in
      s.1 ∙ sym (node_is n s.0 s.1) ∙ node_of_row w n b (row_is w n b row) inner

  state_owner : (n y z : ℕ) (test : Test) → nodes n ≡ Some (State test y z) → (x : ℕ) × (rank_at t (rank_of t (var_of test)) ≡ Some x)
  state_owner n y z test node =
      let a = var_array t (var_of test) (good.arrays n test y z node) in
      (a.0.at, sym (ap (rank_at t) a.2) ∙ placed.owner (var_of test) a.0 a.1)

  -- ---- kind
  field_inner : (b : Row) → IsFieldRow b → is_node b ≡ true
  field_inner (Field test y z) f = refl
  field_inner (State test y z) f = absurd f
  field_inner (Go x) f = absurd f
  field_inner (Leaf ss os) f = absurd f
  field_inner Stop f = absurd f
  field_inner (Last us os) f = absurd f

  -- no row of a number whose node is no field row is one
  no_fields : (n : ℕ) (b : Row) → nodes n ≡ Some b → (IsFieldRow b → ⊥) → All (λ (r : RowAt). r.number ≡ n → IsFieldRow r.row → ⊥) t.rows
  no_fields n b node other = λ i d l same field.
      (let r : RowAt = get_or t.rows i d in
      let row = plan.once i (get_or t.rows i d) (slice_get-get_or t.rows i d l) in
      let mine = node_of_row (get_or t.rows i d).at (get_or t.rows i d).number (get_or t.rows i d).row (row_is (get_or t.rows i d).at (get_or t.rows i d).number (get_or t.rows i d).row row) (field_inner (get_or t.rows i d).row field) in
      other (subst IsFieldRow (same_Some _ b (sym mine ∙ ap nodes same ∙ node)) field))

  last_due : (w : ℕ) (us : _) (os : _) (b : Bool) → nat_eq (ranks t) 0 ≡ b → cond b (has_port t w) (has_ports t && holds t w (ranks t)) ≡ true → IsDue t w (Last us os)
  last_due w us os true e at = inl (eqb-true (ranks t) 0 e)
  last_due w us os false e at = let h = holds_due w (ranks t) (and_parts (has_ports t) (holds t w (ranks t)) at).1 in inr (h.0, h.1)

  owner_low : (v w : ℕ) → owner_of t v ≡ Some w → rank_of t v ≤ ranks t
  owner_low v w e = by (slice_get t.arrays v) refl
    where
      by : (o : Option ArrayAt) → slice_get t.arrays v ≡ o → rank_of t v ≤ ranks t
      by None f = absurd (none-some w (sym (ap (option_map (λ (a : ArrayAt). a.at)) f) ∙ e))
      by (Some a) f = subst (λ x. x ≤ ranks t) (sym (ap (λ o. Rattle.std.specs.Prelude.unwrap_or (option_map (λ (a : ArrayAt). a.rank) o) 0) f)) (let l = ranks_above t.arrays v a f in omega (arith, l))

  kind2 : (w n : ℕ) (b : Row) → row_at t w n ≡ Some b → Plans w n b → IsKind2 t w n b
  kind2 w n b row (field node at) = (is_node_of w n b row refl, tt)
  kind2 w n b row (state {test = test} node some h) = (is_node_of w n b row refl, holds_due w (rank_of t (var_of test)) h)
  kind2 w n b row (last {us = us} {os = os} node at) = (is_node_of w n b row refl, last_due w us os (nat_eq (ranks t) 0) refl at)
  kind2 w n b row (stops_state {test = test} {y = y} {z = z} node at f h) =
      let own = state_owner n y z test node in (
        no_fields n (State test y z) node (λ x. x),
        (
          State test y z,
          is_node_of own.0 n (State test y z) (state_row own.0 n y z test node (ports_any w at) (rank_holds (rank_of t (var_of test)) own.0 (rank_of t (var_of test)) own.1 (omega arith))) refl,
          λ due. both_ways (holds t w (rank_of t (var_of test))) h (due_holds w (rank_of t (var_of test)) due),
        ),
      )
  kind2 w n b row (stops_last {us = us} {os = os} node at f r h) =
      let own = placed.every 0 (omega (arith, r)) in (
        no_fields n (Last us os) node (λ x. x),
        (
          Last us os,
          is_node_of own.0 n (Last us os) (last_at own.0 n 0 us os node (ports_any w at) own.1) refl,
          λ due. ⊎_elim (λ none. r none) (λ o. both_ways (holds t w (ranks t)) h (due_holds w (ranks t) (o.0, o.1, owner_low o.0 w o.1))) due,
        ),
      )

  -- ---- rise and order
  rises : (w n : ℕ) (b : Row) → Plans w n b → Rises n b
  rises w n b (field {test = test} {y = y} {z = z} node at) = ((good.ways n y (Field test y z) node (inl refl)).0, (good.ways n z (Field test y z) node (inr refl)).0)
  rises w n b (state {test = test} {y = y} {z = z} node some h) = ((good.ways n y (State test y z) node (inl refl)).0, (good.ways n z (State test y z) node (inr refl)).0)
  rises w n b (last node at) = tt
  rises w n b (stops_state node at f h) = tt
  rises w n b (stops_last node at f r h) = tt

  if_node : (x : ℕ) (P : Row → Type 0) → IfSome (nodes x) P → IfSome (node_of t x) P
  if_node x P h = by (node_of t x) refl
    where
      by : (o : Option Row) → node_of t x ≡ o → IfSome (node_of t x) P
      by None e = subst (λ o. IfSome o P) (sym e) tt
      by (Some b) e = subst (λ o. IfSome o P) (node_is x b e ∙ sym e) h

  ordered : (w n : ℕ) (b : Row) → Plans w n b → IsInOrder t b
  ordered w n b (state {test = test} {y = y} {z = z} node some h) = (if_node y (MayFollow t (rank_of t (var_of test))) (good.order n y y z test node (inl refl)), if_node z (MayFollow t (rank_of t (var_of test))) (good.order n z y z test node (inr refl)))
  ordered w n b (field node at) = tt
  ordered w n b (last node at) = tt
  ordered w n b (stops_state node at f h) = tt
  ordered w n b (stops_last node at f r h) = tt

  -- ---- missing
  field_child : (w n k y z : ℕ) (test : Test) → nodes n ≡ Some (Field test y z) → has_port t w ≡ true → IsNumberAfter (Field test y z) k → IsSome (row_at t w k)
  field_child w n k y z test node at way = by c.0 c.1
    where
      c : (b : Row) × (nodes k ≡ Some b)
      c = some_of (nodes k) (good.ways n k (Field test y z) node way).1

      by : (b : Row) → nodes k ≡ Some b → IsSome (row_at t w k)
      by (Field u a b) is = is_there (row_at t w k) _ (field_row w k a b u is at)
      by (State u a b) is = front_row w k at (record { body = State u a b; is = is; no_field = λ x. x; from = inr (n, test, y, z, node, way) })
      by (Last us os) is = front_row w k at (record { body = Last us os; is = is; no_field = λ x. x; from = inr (n, test, y, z, node, way) })
      by (Go x) is = absurd (good.kinds k (Go x) is)
      by (Leaf ss os) is = absurd (good.kinds k (Leaf ss os) is)
      by Stop is = absurd (good.kinds k Stop is)

  state_child : (w n k y z : ℕ) (test : Test) → nodes n ≡ Some (State test y z) → has_ports t ≡ true → holds t w (rank_of t (var_of test)) ≡ true → IsNumberAfter (State test y z) k → IsSome (row_at t w k)
  state_child w n k y z test node some h way = by c.0 c.1
    where
      c : (b : Row) × (nodes k ≡ Some b)
      c = some_of (nodes k) (good.ways n k (State test y z) node way).1

      follows : (b : Row) → nodes k ≡ Some b → MayFollow t (rank_of t (var_of test)) b
      follows b is = subst (λ o. IfSome o (MayFollow t (rank_of t (var_of test)))) is (good.order n k y z test node way)

      by : (b : Row) → nodes k ≡ Some b → IsSome (row_at t w k)
      by (Field u a b) is = absurd (follows (Field u a b) is)
      by (State u a b) is = is_there (row_at t w k) _ (state_row w k a b u is some (more_holds w (rank_of t (var_of test)) (rank_of t (var_of u)) (follows (State u a b) is) h))
      by (Last us os) is = is_there (row_at t w k) _ (let o = held w (rank_of t (var_of test)) h in last_at w k o.0 us os is some o.2)
      by (Go x) is = absurd (good.kinds k (Go x) is)
      by (Leaf ss os) is = absurd (good.kinds k (Leaf ss os) is)
      by Stop is = absurd (good.kinds k Stop is)

  at_same : (x w k : ℕ) → x ≡ w → IsSome (row_at t w k) → IsSome (row_at t x k)
  at_same x w k e h = subst (λ y. IsSome (row_at t y k)) (sym e) h

  number_same : (x n k : ℕ) → k ≡ n → IsSome (row_at t x n) → IsSome (row_at t x k)
  number_same x n k e h = subst (λ y. IsSome (row_at t x y)) (sym e) h

  last_ports : (w r x : ℕ) → rank_at t r ≡ Some x → (b : Bool) → nat_eq (ranks t) 0 ≡ b → cond b (has_port t w) (has_ports t && holds t w (ranks t)) ≡ true → has_ports t ≡ true
  last_ports w r x own true e at = ports_any w at
  last_ports w r x own false e at = (and_parts (has_ports t) (holds t w (ranks t)) at).0

  missing : (w n : ℕ) (b : Row) → Plans w n b → (x k : ℕ) → LeadsTo t w n b x k → IsSome (row_at t x k)
  missing w n b (field {test = test} {y = y} {z = z} node at) x k to = at_same x w k to.0 (field_child w n k y z test node at to.1)
  missing w n b (state {test = test} {y = y} {z = z} node some h) x k to = ⊎_elim
      (λ side. at_same x w k side.0 (state_child w n k y z test node some h side.1))
      (λ own. number_same x n k own.1 (is_there (row_at t x n) _ (state_row x n y z test node some (rank_holds own.2.0 x (rank_of t (var_of test)) own.2.2 (let l = own.2.1 in omega (arith, l))))))
      to
  missing w n b (last {us = us} {os = os} node at) x k to =
      number_same x n k to.0 (is_there (row_at t x n) _ (last_at x n to.1.0 us os node (last_ports w to.1.0 x to.1.2 (nat_eq (ranks t) 0) refl at) to.1.2))
  missing w n b (stops_state {test = test} {y = y} {z = z} node at f h) x k to =
      number_same x n k to.1 (is_there (row_at t x n) _ (state_row x n y z test node (ports_any w at) (rank_holds 0 x (rank_of t (var_of test)) to.0 (omega arith))))
  missing w n b (stops_last {us = us} {os = os} node at f r h) x k to =
      number_same x n k to.1 (is_there (row_at t x n) _ (last_at x n 0 us os node (ports_any w at) to.0))

  -- ---- spare
  at_root : (w n : ℕ) → has_port t w ≡ true → n ≡ 0 → Reached t w n
  at_root w n at e = subst (Reached t w) (sym e) (port (at_port w at).1)

  field_reached : (fuel n w y z : ℕ) (test : Test) → n < fuel → has_port t w ≡ true → nodes n ≡ Some (Field test y z) → Reached t w n
  field_reached zero n w y z test l at node = absurd (omega (arith, l))
  field_reached (suc fuel) n w y z test l at node = ⊎_elim (λ e. at_root w n at e) (λ q. by q.0 q.1 q.2 q.3 (λ a b u low is. field_reached fuel q.0 w a b u low at is)) (good.parents n (Field test y z) node)
    where
      by : (m : ℕ) (c : Row) → nodes m ≡ Some c → IsNumberAfter c n → ((a b : ℕ) (u : Test) → m < fuel → nodes m ≡ Some (Field u a b) → Reached t w m) → Reached t w n
      by m (Field u a b) is way again = lead (again a b u (let s = (good.ways m n (Field u a b) is way).0 in omega (arith, s, l)) is) (field_row w m a b u is at) (refl, way)
      by m (State u a b) is way again = absurd (subst (λ o. IfSome o (MayFollow t (rank_of t (var_of u)))) node (good.order m n a b u is way))
      by m (Go x) is way again = absurd way
      by m (Leaf ss os) is way again = absurd way
      by m Stop is way again = absurd way
      by m (Last us os) is way again = absurd way

  front_reached : (w n : ℕ) → has_port t w ≡ true → IsFront nodes n → Reached t w n
  front_reached w n at f = ⊎_elim (λ e. at_root w n at e)
      (λ q. lead (field_reached (suc q.0) q.0 w q.2 q.3 q.1 (omega arith) at q.4) (field_row w q.0 q.2 q.3 q.1 q.4 at) (refl, q.5))
      f.from

  some_row : (o : Option Row) → IsSome o → (b : Row) × (o ≡ Some b)
  some_row None e = absurd (false≢true e)
  some_row (Some b) e = (b, refl)

  -- from a port's switch to the owner of rank 0
  from_front : (x n : ℕ) → has_ports t ≡ true → IsFront nodes n → rank_at t 0 ≡ Some x → Reached t x n
  from_front x n some f own = by r.0 r.1 (row_is w.0 n r.0 r.1)
    where
      w : (w : ℕ) × (has_port t w ≡ true)
      w = a_port some

      r : (b : Row) × (row_at t w.0 n ≡ Some b)
      r = some_row (row_at t w.0 n) (front_row w.0 n w.1 f)

      reached : Reached t w.0 n
      reached = front_reached w.0 n w.1 f

      low : 0 < ranks t
      low = let i = rank_entry t.arrays 0 x own in let l = ranks_above t.arrays i.place i.entry i.is in let e = i.rank in omega (arith, l, e)

      by : (b : Row) → row_at t w.0 n ≡ Some b → Plans w.0 n b → Reached t x n
      by b row (field node at) = absurd (f.no_field (subst (λ c. IsFieldRow c) (same_Some _ f.body (sym node ∙ f.is)) tt))
      by b row (state node some' h) = lead reached row (inr (two, refl, (0, omega arith, own)))
      by b row (last node at) = lead reached row (refl, (0, low, own))
      by b row (stops_state node at g h) = lead reached row (own, refl)
      by b row (stops_last node at g q h) = lead reached row (own, refl)

  -- at the owner of rank 0
  owner_reached : (fuel n x : ℕ) (b : Row) → n < fuel → has_ports t ≡ true → nodes n ≡ Some b → (IsFieldRow b → ⊥) → rank_at t 0 ≡ Some x → Reached t x n
  owner_reached zero n x b l some node other own = absurd (omega (arith, l))
  owner_reached (suc fuel) n x b l some node other own = ⊎_elim
      (λ e. from_front x n some (record { body = b; is = node; no_field = other; from = inl e }) own)
      (λ q. by q.0 q.1 q.2 q.3 (λ c low is field'. owner_reached fuel q.0 x c low some is field' own))
      (good.parents n b node)
    where
      by : (m : ℕ) (c : Row) → nodes m ≡ Some c → IsNumberAfter c n → ((c : Row) → m < fuel → nodes m ≡ Some c → (IsFieldRow c → ⊥) → Reached t x m) → Reached t x n
      by m (Field u a d) is way again = from_front x n some (record { body = b; is = node; no_field = other; from = inr (m, u, a, d, is, way) }) own
      by m (State u a d) is way again =
          lead (again (State u a d) (let s = (good.ways m n (State u a d) is way).0 in omega (arith, s, l)) is (λ y. y))
          (state_row x m a d u is some (rank_holds 0 x (rank_of t (var_of u)) own (omega arith))) (inl (refl, way))
      by m (Go y) is way again = absurd way
      by m (Leaf ss os) is way again = absurd way
      by m Stop is way again = absurd way
      by m (Last us os) is way again = absurd way

  first_owner : (r x : ℕ) → rank_at t r ≡ Some x → (y : ℕ) × (rank_at t 0 ≡ Some y)
  first_owner r x own = placed.every 0 (let i = rank_entry t.arrays r x own in let l = ranks_above t.arrays i.place i.entry i.is in omega (arith, l))

  state_reached : (w n y z r : ℕ) (test : Test) → nodes n ≡ Some (State test y z) → has_ports t ≡ true → r ≤ rank_of t (var_of test) → rank_at t r ≡ Some w → Reached t w n
  state_reached w n y z r test node some l own =
      let o = first_owner r w own in
      lead (owner_reached (suc n) n o.0 (State test y z) (omega arith) some node (λ x. x) o.1)
      (state_row o.0 n y z test node some (rank_holds 0 o.0 (rank_of t (var_of test)) o.1 (omega arith))) (inr (two, refl, (r, omega (arith, l), own)))

  last_reached : (w n r : ℕ) (us : _) (os : _) → nodes n ≡ Some (Last us os) → has_ports t ≡ true → rank_at t r ≡ Some w → Reached t w n
  last_reached w n r us os node some own =
      let o = first_owner r w own in
      lead (owner_reached (suc n) n o.0 (Last us os) (omega arith) some node (λ x. x) o.1) (last_at o.0 n 0 us os node some o.1) (refl, (r, rank_is_below t r w own, own))

  flat_reached : (w n : ℕ) (us : _) (os : _) → ranks t ≡ 0 → nodes n ≡ Some (Last us os) → has_port t w ≡ true → Reached t w n
  flat_reached w n us os none node at = front_reached w n at (record { body = Last us os; is = node; no_field = λ x. x; from = ⊎_elim (λ e. inl e) (λ q. inr (by q.0 q.1 q.2 q.3)) (good.parents n (Last us os) node) })
    where
      by : (m : ℕ) (c : Row) → nodes m ≡ Some c → IsNumberAfter c n → (m : ℕ) × (test : Test) × (y : ℕ) × (z : ℕ) × (nodes m ≡ Some (Field test y z)) × IsNumberAfter (Field test y z) n
      by m (Field u a d) is way = (m, u, a, d, is, way)
      by m (State u a d) is way = absurd (let v = var_array t (var_of u) (good.arrays m u a d is) in let l = ranks_above t.arrays (var_of u) v.0 v.1 in omega (arith, l, none))
      by m (Go y) is way = absurd way
      by m (Leaf ss os') is way = absurd way
      by m Stop is way = absurd way
      by m (Last us' os') is way = absurd way

  leaf_reached : (w n : ℕ) (us : _) (os : _) → nodes n ≡ Some (Last us os) → (b : Bool) → nat_eq (ranks t) 0 ≡ b → cond b (has_port t w) (has_ports t && holds t w (ranks t)) ≡ true → Reached t w n
  leaf_reached w n us os node true e at = flat_reached w n us os (eqb-true (ranks t) 0 e) node at
  leaf_reached w n us os node false e at = let parts = and_parts (has_ports t) (holds t w (ranks t)) at in let h = held w (ranks t) parts.1 in last_reached w n h.0 us os node parts.0 h.2

  reached : (w n : ℕ) (b : Row) → Plans w n b → Reached t w n
  reached w n b (field {test = test} {y = y} {z = z} node at) = field_reached (suc n) n w y z test (omega arith) at node
  reached w n b (state {test = test} {y = y} {z = z} node some h) = let o = held w (rank_of t (var_of test)) h in state_reached w n y z o.0 test node some o.1 o.2
  reached w n b (last {us = us} {os = os} node at) = leaf_reached w n us os node (nat_eq (ranks t) 0) refl at
  reached w n b (stops_state node at f h) = front_reached w n at (good.front_is n f)
  reached w n b (stops_last node at f r h) = front_reached w n at (good.front_is n f)

  root_row : (w : ℕ) → has_port t w ≡ true → IsSome (row_at t w 0)
  root_row w at = by c.0 c.1
    where
      c : (b : Row) × (nodes 0 ≡ Some b)
      c = some_of (nodes 0) good.root

      by : (b : Row) → nodes 0 ≡ Some b → IsSome (row_at t w 0)
      by (Field u a b) is = is_there (row_at t w 0) _ (field_row w 0 a b u is at)
      by (State u a b) is = front_row w 0 at (record { body = State u a b; is = is; no_field = λ x. x; from = inl refl })
      by (Last us os) is = front_row w 0 at (record { body = Last us os; is = is; no_field = λ x. x; from = inl refl })
      by (Go x) is = absurd (good.kinds 0 (Go x) is)
      by (Leaf ss os) is = absurd (good.kinds 0 (Leaf ss os) is)
      by Stop is = absurd (good.kinds 0 Stop is)

  port_keeps : (rule : Rule) (i : ℕ) (p : PortAt) → slice_get t.ports i ≡ Some p → PortKeeps t rule p
  port_keeps Missing i p e = root_row p.at (any_passes_from_place (λ (q : PortAt). nat_eq q.at p.at) t.ports i p e (eq-eqb p.at p.at refl))
  port_keeps Link i p e = tt
  port_keeps Loop i p e = tt
  port_keeps Kind i p e = tt
  port_keeps Owner i p e = tt
  port_keeps Rise i p e = tt
  port_keeps Order i p e = tt
  port_keeps Spare i p e = tt

  row_keeps : (rule : Rule) (w n : ℕ) (b : Row) → row_at t w n ≡ Some b → RowKeeps t rule w n b
  row_keeps Kind w n b e = ((λ one. absurd (not_one t two one)), λ v. kind2 w n b e (row_is w n b e))
  row_keeps Owner w n b e = λ one. absurd (not_one t two one)
  row_keeps Rise w n b e = rises w n b (row_is w n b e)
  row_keeps Order w n b e = λ v. ordered w n b (row_is w n b e)
  row_keeps Missing w n b e = missing w n b (row_is w n b e)
  row_keeps Spare w n b e = reached w n b (row_is w n b e)
  row_keeps Link w n b e = tt
  row_keeps Loop w n b e = tt

  array_keeps : (rule : Rule) (i : ℕ) (a : ArrayAt) → slice_get t.arrays i ≡ Some a → ArrayKeeps t rule i a
  array_keeps Owner i a e = λ v. (
    All-take (λ (b : ArrayAt). b.rank ≡ a.rank → b.at ≡ a.at) i t.arrays (λ j d l same. same_Some _ a.at (sym (placed.owner j (get_or t.arrays j d) (slice_get-get_or t.arrays j d l)) ∙ ap (rank_at t) same ∙ placed.owner i a e)),
    by (nat_eq a.rank 0) refl,
  )
    where
      by : (c : Bool) → nat_eq a.rank 0 ≡ c → (a.rank ≡ 0) ⊎ ((j : ℕ) × (b : ArrayAt) × (slice_get t.arrays j ≡ Some b) × (b.rank + 1 ≡ a.rank))
      by true f = inl (eqb-true a.rank 0 f)
      by false f =
          let some = eqb-false a.rank 0 f in
          let above = ranks_above t.arrays i a e in
          let o = placed.every (a.rank - 1) (omega (arith, above)) in
          let k = rank_entry t.arrays (a.rank - 1) o.0 o.1 in
          inr (k.place, k.entry, k.is, let r = k.rank in omega (arith, r, some))
  array_keeps Link i a e = tt
  array_keeps Loop i a e = tt
  array_keeps Kind i a e = tt
  array_keeps Rise i a e = tt
  array_keeps Order i a e = tt
  array_keeps Missing i a e = tt
  array_keeps Spare i a e = tt

  -- ---- all nodes are shown, where there is any row
  row_ports : (w n : ℕ) (b : Row) → Plans w n b → has_ports t ≡ true
  row_ports w n b (field node at) = ports_any w at
  row_ports w n b (state node some h) = some
  row_ports w n b (last node at) = by (nat_eq (ranks t) 0) refl
    where
      by : (c : Bool) → nat_eq (ranks t) 0 ≡ c → has_ports t ≡ true
      by true e = ports_any w (sym (ap (λ c. cond c (has_port t w) (has_ports t && holds t w (ranks t))) e) ∙ at)
      by false e = (and_parts (has_ports t) (holds t w (ranks t)) (sym (ap (λ c. cond c (has_port t w) (has_ports t && holds t w (ranks t))) e) ∙ at)).0
  row_ports w n b (stops_state node at f h) = ports_any w at
  row_ports w n b (stops_last node at f r h) = ports_any w at

  any_row : (j : ℕ) (c : Row) → node_of t j ≡ Some c → has_ports t ≡ true
  any_row j c e =
      let i = node_entry t.rows j c e in
      row_ports i.entry.at i.entry.number (i.entry.row) (row_is i.entry.at i.entry.number (i.entry.row) (plan.once i.place i.entry i.is))

  pub node_back : (n : ℕ) (b : Row) → node_of t n ≡ Some b → nodes n ≡ Some b
  node_back = node_is

  pub all_shown : (j : ℕ) (c : Row) → node_of t j ≡ Some c → (n : ℕ) (b : Row) → nodes n ≡ Some b → node_of t n ≡ Some b
  all_shown j c e n b is = by b is
    where
      some : has_ports t ≡ true
      some = any_row j c e

      flat : (us : _) (os : _) → nodes n ≡ Some (Last us os) → (z : Bool) → nat_eq (ranks t) 0 ≡ z → node_of t n ≡ Some (Last us os)
      flat us os node true z = let w = a_port some in is_node_of w.0 n (Last us os) (last_row w.0 n us os node true z w.1) refl
      flat us os node false z = let o = placed.every 0 (let r = eqb-false (ranks t) 0 z in omega (arith, r)) in is_node_of o.0 n (Last us os) (last_at o.0 n 0 us os node some o.1) refl

      by : (b : Row) → nodes n ≡ Some b → node_of t n ≡ Some b
      by (Field test y z) node = let w = a_port some in is_node_of w.0 n (Field test y z) (field_row w.0 n y z test node w.1) refl
      by (State test y z) node = let o = state_owner n y z test node in is_node_of o.0 n (State test y z) (state_row o.0 n y z test node some (rank_holds (rank_of t (var_of test)) o.0 (rank_of t (var_of test)) o.1 (omega arith))) refl
      by (Last us os) node = flat us os node (nat_eq (ranks t) 0) refl
      by (Go x) node = absurd (good.kinds n (Go x) node)
      by (Leaf ss os) node = absurd (good.kinds n (Leaf ss os) node)
      by Stop node = absurd (good.kinds n Stop node)

  pub planned_valid : IsValid t
  planned_valid rule (spot.Hop i) = if_there (slice_get t.hops i) (HopKeeps t rule) (λ h e. hop_keeps t hops rule i h e)
  planned_valid rule (spot.Port i) = if_there (slice_get t.ports i) (PortKeeps t rule) (λ p e. port_keeps rule i p e)
  planned_valid rule (spot.Row i) = if_there (slice_get t.rows i) (λ (r : RowAt). RowKeeps t rule r.at r.number r.row) (λ r e. row_keeps rule r.at r.number r.row (plan.once i r e))
  planned_valid rule (spot.Array i) = if_there (slice_get t.arrays i) (ArrayKeeps t rule i) (λ a e. array_keeps rule i a e)

pub planned_is_valid : PlannedIsValid
planned_is_valid t nodes front two good placed hops plan = planned_valid t nodes front two good placed hops plan
