-- Each number of valid tables of version 1 has a chain to a leaf; and what single-owner chains say.
use Rattle.std.proofs.Common.{◌≡◌, ℕ, zero, suc, ◌+◌, ◌<◌, ◌≤◌, ◌⊎◌, inl, inr, Bool, true, false, cond, List, [], ◌∷◌, map, length, Option, Some, None, refl, sym, ap, subst, arith}
use Rattle.std.specs.Prelude.{slice_get, IfSome, IsSome, Contains}
use Rattle.std.proofs.lemmas.Bool.{both_ways, false≢true}
use Rattle.std.proofs.lemmas.Option.{none-some, same_Some}
use Rattle.snap_core.specs.Arrays.{Arrays}
use Rattle.snap_core.specs.Tests.{passes}
use Rattle.snap_rows.specs.declared.tables.RowAt.{RowAt}
use Rattle.snap_rows.specs.declared.tables.Tables.{Tables}
use Rattle.snap_rows.specs.declared.tables.Rule.{Rule}
use Rattle.snap_rows.specs.declared.tables.Rule.TheVariants.{Owner, Rise, Missing}
use Rattle.snap_rows.specs.declared.tables.Spot.TheVariants as spot
use Rattle.snap_rows.specs.declared.tables.Row.{Row}
use Rattle.snap_rows.specs.declared.tables.Row.TheVariants.{Field, State, Go, Leaf, Stop, Last}
use Rattle.snap_rows.specs.declared.tables.Stage.{Stage as LeafStage}
use Rattle.snap_rows.specs.Entries.{row_at, node_of, is_node}
use Rattle.snap_rows.specs.Handles.{side, is_field}
use Rattle.snap_rows.specs.SingleOwner.{Chain, field, state, leaf, IsSingleOwnerFrom}
use Rattle.snap_rows.specs.Rules.{RowKeeps}
use Rattle.snap_rows.proofs.Rows.{NodeEntry, node_entry, nodes, row_form}
use Rattle.snap_faithful.specs.Visits.{Comes, here, on}
use Rattle.snap_faithful.proofs.StagedNodes.{IsOne, own_node, goes_to}
use Rattle.snap_core.proofs.Members.{Contains-here, Contains-later}

-- a bound of all numbers
abbrev greatest : List RowAt → ℕ
greatest [] = 0
greatest (r ∷ rs) = r.number + greatest rs

below_greatest : (rs : List RowAt) (i : ℕ) (r : RowAt) → slice_get rs i ≡ Some r → r.number ≤ greatest rs
below_greatest [] i r e = absurd (none-some r e)
below_greatest (x ∷ rs) zero r e = let s : x.number ≡ r.number = ap (λ (r : RowAt). r.number) (same_Some x r e) in omega (arith, s)
below_greatest (x ∷ rs) (suc i) r e = let l = below_greatest rs i r e in omega (arith, l)

module _ (t : Tables) (one : IsOne t) where
  -- the row of a node keeps each rule
  node_keeps : (rule : Rule) (n : ℕ) (b : Row) (i : NodeEntry t.rows n b) → RowKeeps t rule i.entry.at n b
  node_keeps rule n b i =
      let here' : RowKeeps t rule i.entry.at i.entry.number i.entry.row = subst (λ o. IfSome o (λ (r : RowAt). RowKeeps t rule r.at r.number r.row)) i.is (one.valid rule (spot.Row i.place)) in
      subst (λ b. RowKeeps t rule i.entry.at n b) i.body (subst (λ n. RowKeeps t rule i.entry.at n i.entry.row) i.number here')

  some_node : (w n : ℕ) → IsSome (row_at t w n) → (b : Row) × (node_of t n ≡ Some b)
  some_node w n is = by (row_at t w n) refl is
    where
      of : (b : Row) → row_at t w n ≡ Some b → (b : Row) × (node_of t n ≡ Some b)
      of (Go x) e = let g = (goes_to t one w n x e).1 in (State g.test g.yes g.otherwise, g.node)
      of (Field test y z) e = (Field test y z, own_node t one w n (Field test y z) e refl)
      of (State test y z) e = (State test y z, own_node t one w n (State test y z) e refl)
      of (Leaf ss os) e = (Leaf ss os, own_node t one w n (Leaf ss os) e refl)
      of (Last us os) e = (Last us os, own_node t one w n (Last us os) e refl)
      of Stop e = absurd (let f = (row_form t one.form w n Stop e) in let a = one.version in omega (arith, a, f))

      by : (o : Option Row) → row_at t w n ≡ o → IsSome o → (b : Row) × (node_of t n ≡ Some b)
      by None e is = absurd (false≢true is)
      by (Some b) e is = of b e

  chain_from : (fuel n : ℕ) (b : Row) → greatest t.rows < n + fuel → node_of t n ≡ Some b → (ws : List ℕ) × Chain t n ws
  chain_from zero n b l node =
      let i = node_entry t.rows n b node in
      absurd (let a = below_greatest t.rows i.place i.entry i.is in let c = i.number in omega (arith, l, a, c))
  chain_from (suc fuel) n b l node =
      let i = node_entry t.rows n b node in
      by b node i.node (node_keeps Rise n b i) (node_keeps Missing n b i) (node_keeps Owner n b i) (λ x c. chain_from fuel x c)
    where
      at : ℕ
      at = (node_entry t.rows n b node).entry.at

      by : (b : Row) → node_of t n ≡ Some b → is_node b ≡ true → RowKeeps t Rise at n b → RowKeeps t Missing at n b → RowKeeps t Owner at n b
          → ((x : ℕ) (c : Row) → greatest t.rows < x + fuel → node_of t x ≡ Some c → (ws : List ℕ) × Chain t x ws) → (ws : List ℕ) × Chain t n ws
      by (Field test y z) node is rise missing own more =
          let b = some_node at y (missing at y (refl, inl refl)) in
          let c = more y b.0 (let r = rise.0 in omega (arith, r, l)) b.1 in
          (c.0, field node (inl refl) c.1)
      by (State test y z) node is rise missing own more =
          let b = some_node at y (missing at y (inl (refl, inl refl))) in
          let c = more y b.0 (let r = rise.0 in omega (arith, r, l)) b.1 in
          (at ∷ c.0, state node (own one.version) (inl refl) c.1)
      by (Leaf ss os) node is rise missing own more = (map (λ (s : LeafStage). s.at) ss, leaf node)
      by (Go x) node is rise missing own more = absurd (both_ways _ refl is)
      by Stop node is rise missing own more = absurd (both_ways _ refl is)
      by (Last us os) node is rise missing own more = absurd (let f = (nodes t one.form n (Last us os) node).0.0 in let a = one.version in omega (arith, a, f))

  pub has_chain : (n : ℕ) (b : Row) → node_of t n ≡ Some b → (ws : List ℕ) × Chain t n ws
  has_chain n b node = chain_from (greatest t.rows + 1) n b (omega arith) node

  -- the number behind a test is one of two
  pub way_in : (c : Bool) (y z x : ℕ) → Some (cond c y z) ≡ Some x → (x ≡ y) ⊎ (x ≡ z)
  way_in true y z x e = inl (sym (same_Some y x e))
  way_in false y z x e = inr (sym (same_Some z x e))

  -- behind field rows chains are as single-owner
  pub single_owner_on : {k : List ℕ} {m : Arrays} {a n : ℕ} → IsSingleOwnerFrom t a → Comes t k is_field m a n → IsSingleOwnerFrom t n
  single_owner_on single_owner here = single_owner
  single_owner_on {k = k} {m = m} {a = a} single_owner (on {x = x} {b = b} node is way rest) = single_owner_on (by b node is way) rest
    where
      by : (b : Row) → node_of t a ≡ Some b → is_field b ≡ true → side b m k ≡ Some x → IsSingleOwnerFrom t x
      by (Field test y z) node is way = λ ws chain. single_owner ws (field node (way_in (passes test m k) y z x way) chain)
      by (State test y z) node is way = absurd (both_ways _ refl is)
      by (Go v) node is way = absurd (both_ways _ refl is)
      by (Leaf ss os) node is way = absurd (both_ways _ refl is)
      by Stop node is way = absurd (both_ways _ refl is)
      by (Last us os) node is way = absurd (both_ways _ refl is)

-- ---- members
pub turn_in : (ss : List LeafStage) (i : ℕ) (s : LeafStage) → slice_get ss i ≡ Some s → Contains (map (λ (s : LeafStage). s.at) ss) s.at
turn_in [] i s e = absurd (none-some s e)
turn_in (x ∷ ss) zero s e = subst (λ (y : LeafStage). Contains (map (λ (s : LeafStage). s.at) (x ∷ ss)) y.at) (same_Some x s e) (Contains-here x.at (map (λ (s : LeafStage). s.at) ss))
turn_in (x ∷ ss) (suc i) s e = Contains-later s.at x.at (map (λ (s : LeafStage). s.at) ss) (turn_in ss i s e)

pub turn_at : (ss : List LeafStage) (i : ℕ) → i < length ss → (s : LeafStage) × (slice_get ss i ≡ Some s)
turn_at [] i l = absurd (omega (arith, l))
turn_at (x ∷ ss) zero l = (x, refl)
turn_at (x ∷ ss) (suc i) l = turn_at ss i (omega (arith, l))
