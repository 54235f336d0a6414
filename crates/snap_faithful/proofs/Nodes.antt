-- What valid tables of version 2 say of rows and nodes, and of the heads that they handle.
use Rattle.std.proofs.Common.{◌≡◌, ◌≢◌, ℕ, true, false, List, [], ◌∷◌, Some, refl, sym, subst}
use Rattle.std.specs.Prelude.{IfSome}
use Rattle.std.proofs.lemmas.Bool.{both_ways}
use Rattle.snap_core.specs.declared.policy.Update.{Update}
use Rattle.snap_core.specs.Arrays.{Arrays}
use Rattle.snap_rows.specs.declared.tables.RowAt.{RowAt}
use Rattle.snap_rows.specs.declared.tables.Tables.{Tables}
use Rattle.snap_rows.specs.declared.tables.Rule.TheVariants.{Kind, Order}
use Rattle.snap_rows.specs.declared.tables.Spot.TheVariants as spot
use Rattle.snap_rows.specs.declared.tables.Row.{Row}
use Rattle.snap_rows.specs.declared.tables.Row.TheVariants.{Field, State, Go, Leaf, Stop, Last}
use Rattle.snap_rows.specs.declared.tables.Stage.{Stage as LeafStage}
use Rattle.snap_rows.specs.Actions.{Action, Forward, Deliver}
use Rattle.snap_rows.specs.declared.head.Head.TheVariants.{Walk, Out, Visit}
use Rattle.snap_rows.specs.Entries.{Parts, row_at, node_of, is_node, ranks}
use Rattle.snap_rows.specs.Form.{IsWellFormed, IsFieldTest}
use Rattle.snap_rows.specs.Rules.{IsValid, IsInOrder, IsKind2, MayFollow, RowKeeps}
use Rattle.snap_rows.specs.Home.{IsVisited}
use Rattle.snap_rows.specs.Handles.{Handles, asks, goes, forks, begins, enters, enters_last, delivers, carries, Follows, is_field, forked}
use Rattle.snap_rows.proofs.Rows.{row_keeps, row_form, nodes, node_entry}
use Rattle.snap_rows.proofs.Later.{not_one, ends_field}

-- valid tables of version 2
pub record IsTwo (t : Tables) : Type 0 where
  pub form : IsWellFormed t
  pub valid : IsValid t
  pub version : t.version ≡ 2

-- a field row has a test of components alone
abbrev pub AsksFields : Row → Type 0
AsksFields (Field test y z) = IsFieldTest test
AsksFields _ = Unit {0}

-- what the step of a copy that enters does: it goes on with the visit of rank 0, or forks where there are no ranks
pub data WalkDoes (t : Tables) (w : ℕ) (k : List ℕ) (s : Arrays) (n : ℕ) : Arrays → Action → Type 0 where
  visits_first : {s' : Arrays} {v : ℕ} {a : Action} → ranks t ≢ 0 → Follows t w k is_field s n v → Handles t w k s (Visit 0 v) s' a → WalkDoes t w k s n s' a
  forks_at_once : {v : ℕ} {us : List Update} {os : List Parts} → ranks t ≡ 0 → Follows t w k is_field s n v → row_at t w v ≡ Some (Last us os) → WalkDoes t w k s n s (forked t os k)

-- what the step of a copy on its way to a port does
pub data OutDoes (p : ℕ) (s : Arrays) : Arrays → Action → Type 0 where
  is_delivered : OutDoes p s s (Deliver p)
  is_carried : {x : ℕ} → OutDoes p s s (Forward x (Out p))

pub out_does : {t : Tables} {w : ℕ} {k : List ℕ} {p : ℕ} {s s' : Arrays} {a : Action} → Handles t w k s (Out p) s' a → OutDoes p s s' a
out_does (delivers own) = is_delivered
out_does (carries own away) = is_carried

module _ (t : Tables) (two : IsTwo t) where
  no_go : (w n x : ℕ) → row_at t w n ≡ Some (Go x) → ⊥
  no_go w n x row = not_one t two.version (row_form t two.form w n (Go x) row).0

  pub no_leaf : (w n : ℕ) (ss : List LeafStage) (os : List Parts) → row_at t w n ≡ Some (Leaf ss os) → ⊥
  no_leaf w n ss os row = not_one t two.version (row_form t two.form w n (Leaf ss os) row).0

  pub walk_does : {w : ℕ} {k : List ℕ} {s s' : Arrays} {n : ℕ} {a : Action} → Handles t w k s (Walk n) s' a → WalkDoes t w k s n s' a
  walk_does (asks one row way rest) = absurd (not_one t two.version one)
  walk_does {w = w} {n = n} (goes {x = x} row) = absurd (no_go w n x row)
  walk_does {w = w} {n = n} (forks {os = os} row) = absurd (no_leaf w n [] os row)
  walk_does {w = w} {n = n} (begins {s = s} {ss = ss} {os = os} row rest) = absurd (no_leaf w n (s ∷ ss) os row)
  walk_does (enters version some follow rest) = visits_first some follow rest
  walk_does (enters_last version none follow row) = forks_at_once none follow row

  -- a row that is a node is its number's node
  pub own_node : (w n : ℕ) (b : Row) → row_at t w n ≡ Some b → is_node b ≡ true → node_of t n ≡ Some b
  own_node w n b row inner = by b inner ((row_keeps t two.valid Kind w n b row).1 two.version)
    where
      by : (b : Row) → is_node b ≡ true → IsKind2 t w n b → node_of t n ≡ Some b
      by (Field test y z) inner kind = kind.0
      by (State test y z) inner kind = kind.0
      by (Leaf ss os) inner kind = kind.0
      by (Last us os) inner kind = kind.0
      by (Go x) inner kind = absurd (both_ways _ refl inner)
      by Stop inner kind = absurd (both_ways _ refl inner)

  -- the number of a row that is no field row may follow rank 0
  pub may_begin : (w n : ℕ) (b : Row) → row_at t w n ≡ Some b → is_field b ≡ false → IfSome (node_of t n) (MayFollow t 0)
  may_begin w n b row other = let e = ends_field t two.valid two.form two.version w n b row other in subst (λ o. IfSome o (MayFollow t 0)) (sym e.is) (by e.node e.visited)
    where
      by : (b : Row) → IsVisited t 0 b → MayFollow t 0 b
      by (State test y z) visited = visited
      by (Field test y z) visited = visited
      by _ visited = tt

  -- rows are in order, and ask fields alone where they say so
  pub in_order : (n : ℕ) (b : Row) → node_of t n ≡ Some b → IsInOrder t b
  in_order n b node =
      let i = node_entry t.rows n b node in
      let here : RowKeeps t Order i.entry.at i.entry.number i.entry.row = subst (λ o. IfSome o (λ (r : RowAt). RowKeeps t Order r.at r.number r.row)) i.is (two.valid Order (spot.Row i.place)) in
      subst (IsInOrder t) i.body (here two.version)

  pub asks_fields : (n : ℕ) (b : Row) → node_of t n ≡ Some b → AsksFields b
  asks_fields n (Field test y z) node = (nodes t two.form n (Field test y z) node).0.1
  asks_fields n (State test y z) node = tt
  asks_fields n (Go x) node = tt
  asks_fields n (Leaf ss os) node = tt
  asks_fields n Stop node = tt
  asks_fields n (Last us os) node = tt
