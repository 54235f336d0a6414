-- What is known of the switches at which chains from a number stand.
use Rattle.std.specs.Prelude.{◌≡◌, ◌≢◌, ◌↔◌, ℕ, ◌<◌, ◌==◌, Option, Some, None, List, [], ◌∷◌, Contains, slice_get, get_or, length, drop, nat_lt, unwrap_or, if◌then◌else◌, MatchOption}
use Rattle.std.specs.BTreeMap.{BTreeMap, get}
use Rattle.std.specs.Ordering.{nat_cmp}
use Rattle.snap_rows.specs.declared.rules.nodes.Numbered.{Numbered}
use Rattle.snap_rows.specs.declared.rules.alone.Standing.{Standing}
use Rattle.snap_rows.specs.declared.rules.alone.Standing.TheVariants.{Nowhere, At, Apart}
use Rattle.snap_rows.specs.declared.tables.RowAt.{RowAt}
use Rattle.snap_rows.specs.declared.tables.Tables.{Tables}
use Rattle.snap_rows.specs.declared.tables.Row.{Row}
use Rattle.snap_rows.specs.declared.tables.Row.TheVariants.{Field, State, Leaf}
use Rattle.snap_rows.specs.declared.tables.Stage.{Stage as LeafStage}
use Rattle.snap_rows.specs.Entries.{node_in, node_of, owner_of, var_of}
use Rattle.snap_rows.specs.Rules.{IsFieldRow}
use Rattle.snap_rows.specs.SingleOwner.{Chain, IsSingleOwnerFrom}

-- some chain from a number stands at this switch
abbrev pub StandsAt : Tables → ℕ → ℕ → Type 0
StandsAt t n w = (ws : List ℕ) × Chain t n ws × Contains ws w

-- these are no switches, one, or two that differ
abbrev pub AreSo : (ℕ → Type 0) → Standing → Type 0
AreSo P Nowhere = (w : ℕ) → ¬ P w
AreSo P (At w) = P w × ((v : ℕ) → P v → v ≡ w)
AreSo P Apart = (v w : ℕ) × (v ≢ w) × P v × P w

-- a switch beside others
abbrev pub beside : ℕ → Standing → Standing
beside w Nowhere = At w
beside w (At v) = if w == v then At w else Apart
beside w Apart = Apart

abbrev pub both : Standing → Standing → Standing
both Nowhere s = s
both (At w) s = beside w s
both Apart s = Apart

-- neighbours differ, so two stages stand apart
abbrev pub of_stages : List LeafStage → Standing
of_stages [] = Nowhere
of_stages (s ∷ []) = At s.at
of_stages (s ∷ s' ∷ ss) = Apart

-- a switch, if there is one, beside others
abbrev pub beside_owner : Option ℕ → Standing → Standing
beside_owner None s = Nowhere
beside_owner (Some w) s = beside w s

-- how chains from a number with this node stand, by how those from greater numbers do
abbrev pub of_node : Tables → (ℕ → Standing) → Row → Standing
of_node t so (Field test y z) = both (so y) (so z)
of_node t so (State test y z) = beside_owner (owner_of t (var_of test)) (both (so y) (so z))
of_node t so (Leaf ss os) = of_stages ss
of_node t so _ = Nowhere

-- a row that stands at a switch itself stands apart from what comes after it
abbrev pub Splits : Row → Standing → Type 0
Splits b s = (s ≡ Apart) × (¬ IsFieldRow b)

-- what the standing of a number says
pub record Facts (t : Tables) (n : ℕ) (s : Standing) : Type 0 where
  pub single_owner : IsSingleOwnerFrom t n
  pub so : AreSo (StandsAt t n) s
  pub chain : (b : Row) → node_of t n ≡ Some b → (ws : List ℕ) × Chain t n ws

-- the place that is known of a number
abbrev pub place_in : Numbered → ℕ → Option ℕ
place_in m n = if nat_lt n (length m.low.items) then get_or m.low.items n None else get nat_cmp m.high n

-- the number's node among the rows from k on is the row of place i
pub record IsNodeFrom (t : Tables) (k n i : ℕ) : Type 0 where
  pub entry : RowAt
  pub is : slice_get t.rows i ≡ Some entry
  pub number : entry.number ≡ n
  pub node : node_in (drop k t.rows) n ≡ Some entry.row

-- where the nodes of numbers stand among the rows from k on
abbrev pub AreNodesFrom : Tables → ℕ → (ℕ → Option ℕ) → Type 0
AreNodesFrom t k at = (n : ℕ) → MatchOption (at n) (node_in (drop k t.rows) n ≡ None) (IsNodeFrom t k n)

-- the numbers that have field rows among the first k
abbrev pub AreFieldsTo : Tables → ℕ → (ℕ → Option ℕ) → Type 0
AreFieldsTo t k at = (n : ℕ)
    → (at n ≡ None) ↔ ((i : ℕ) (r : RowAt) → i < k → slice_get t.rows i ≡ Some r → r.number ≡ n → ¬ IsFieldRow r.row)

abbrev pub standing_in : BTreeMap ℕ Standing → ℕ → Standing
standing_in known n = unwrap_or (get nat_cmp known n) Nowhere

-- the standing of each number whose node isn't among the rest is known
pub record IsGrown (t : Tables) (rest : BTreeMap ℕ ℕ) (known : BTreeMap ℕ Standing) : Type 0 where
  pub nodes : (n i : ℕ) → get nat_cmp rest n ≡ Some i → IsNodeFrom t 0 n i
  pub facts : (n : ℕ) → get nat_cmp rest n ≡ None → Facts t n (standing_in known n)
