-- What valid tables of version 1 say of rows and nodes.
use Rattle.std.proofs.Common.{◌≡◌, ◌≢◌, ℕ, true, List, Some, refl}
use Rattle.std.specs.Prelude.{slice_get}
use Rattle.std.specs.List.{All}
use Rattle.std.proofs.lemmas.Bool.{both_ways}
use Rattle.snap_core.specs.declared.policy.Test.{Test}
use Rattle.snap_core.specs.declared.policy.Update.{Update}
use Rattle.snap_rows.specs.declared.tables.Tables.{Tables}
use Rattle.snap_rows.specs.declared.tables.Rule.TheVariants.{Kind, Owner}
use Rattle.snap_rows.specs.declared.tables.Row.{Row}
use Rattle.snap_rows.specs.declared.tables.Row.TheVariants.{Field, State, Go, Leaf, Stop, Last}
use Rattle.snap_rows.specs.declared.tables.Stage.{Stage as LeafStage}
use Rattle.snap_rows.specs.Entries.{Parts, row_at, node_of, owner_of, var_of, is_node}
use Rattle.snap_rows.specs.Form.{IsWellFormed}
use Rattle.snap_rows.specs.Rules.{IsValid, IsKind1, IsStateRow}
use Rattle.snap_rows.proofs.Rows.{row_keeps, nodes, All-get}
use Rattle.snap_faithful.proofs.Nodes.{AsksFields}

-- valid tables of version 1
pub record IsOne (t : Tables) : Type 0 where
  pub form : IsWellFormed t
  pub valid : IsValid t
  pub version : t.version ≡ 1

-- a row `go`: elsewhere there is the state row of the number
pub record GoesTo (t : Tables) (n x : ℕ) : Type 0 where
  pub test : Test
  pub yes : ℕ
  pub otherwise : ℕ
  pub node : node_of t n ≡ Some (State test yes otherwise)
  pub owner : owner_of t (var_of test) ≡ Some x

module _ (t : Tables) (one : IsOne t) where
  pub own_node : (w n : ℕ) (b : Row) → row_at t w n ≡ Some b → is_node b ≡ true → node_of t n ≡ Some b
  own_node w n b row inner = by b inner ((row_keeps t one.valid Kind w n b row).0 one.version)
    where
      by : (b : Row) → is_node b ≡ true → IsKind1 t w n b → node_of t n ≡ Some b
      by (Field test y z) inner kind = kind
      by (State test y z) inner kind = kind
      by (Leaf ss os) inner kind = kind
      by (Last us os) inner kind = kind
      by (Go x) inner kind = absurd (both_ways _ refl inner)
      by Stop inner kind = absurd (both_ways _ refl inner)

  -- a state row stands at its array's switch
  pub state_owner : (w n y z : ℕ) (test : Test) → row_at t w n ≡ Some (State test y z) → owner_of t (var_of test) ≡ Some w
  state_owner w n y z test row = row_keeps t one.valid Owner w n (State test y z) row one.version

  -- and so do the updates of a stage
  pub stage_owners : (w n i : ℕ) (ss : List LeafStage) (os : List Parts) (s : LeafStage) → row_at t w n ≡ Some (Leaf ss os) → slice_get ss i ≡ Some s → All (λ (u : Update). owner_of t u.var ≡ Some s.at) s.ups
  stage_owners w n i ss os s row found =
      All-get (λ (s : LeafStage). All (λ (u : Update). owner_of t u.var ≡ Some s.at) s.ups) ss i s (row_keeps t one.valid Owner w n (Leaf ss os) row one.version) found

  -- `go` stands elsewhere than at the state row
  pub goes_to : (w n x : ℕ) → row_at t w n ≡ Some (Go x) → (x ≢ w) × GoesTo t n x
  goes_to w n x row =
      let kind = (row_keeps t one.valid Kind w n (Go x) row).0 one.version in
      (kind.0, by kind.1.0 kind.1.1 kind.1.2)
    where
      by : (b : Row) → row_at t x n ≡ Some b → IsStateRow b → GoesTo t n x
      by (State test y z) there is = record { test = test; yes = y; otherwise = z; node = own_node x n (State test y z) there refl; owner = state_owner x n y z test there }
      by (Field test y z) there is = absurd is
      by (Go y) there is = absurd is
      by (Leaf ss os) there is = absurd is
      by Stop there is = absurd is
      by (Last us os) there is = absurd is

  pub asks_fields : (n : ℕ) (b : Row) → node_of t n ≡ Some b → AsksFields b
  asks_fields n (Field test y z) node = (nodes t one.form n (Field test y z) node).0.1
  asks_fields n (State test y z) node = tt
  asks_fields n (Go x) node = tt
  asks_fields n (Leaf ss os) node = tt
  asks_fields n Stop node = tt
  asks_fields n (Last us os) node = tt
