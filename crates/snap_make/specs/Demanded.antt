-- The rows of switches in tables on demand.
use Rattle.std.specs.Prelude.{◌≡◌, ◌==◌, ◌++◌, ℕ, Option, None, List, length, map, option_map, slice_get, slice_index, if◌then◌else◌}
use Rattle.std.specs.List.{range_with_len}
use Rattle.snap_diagrams.specs.declared.node.Node.{Node}
use Rattle.snap_diagrams.specs.Arena.{IsArena}
use Rattle.snap_diagrams.specs.declared.leaf.Leaf.{Leaf}
use Rattle.snap_rows.specs.declared.tables.Row.{Row}
use Rattle.snap_rows.specs.declared.tables.Row.TheVariants.{Go, State}
use Rattle.snap_rows.specs.declared.tables.RowAt.{RowAt}
use Rattle.snap_rows.specs.declared.tables.Tables.{Tables}
use Rattle.snap_rows.specs.Entries.{var_of}
use Rattle.snap_faithful.specs.Generated.{numbered_nodes}
use Rattle.snap_faithful.specs.Shown.{IsNumbering}
use Rattle.snap_make.specs.declared.switches.Switches.{Switches}
use Rattle.snap_make.specs.Demands.{AreDemanded, has_pair}
use Rattle.snap_faithful.specs.OnDemand.{HasNodes, place_of, staged}
use Rattle.snap_make.specs.Pairs.{at_switches, row_entry}
use Rattle.snap_make.specs.Shares.{body_of}

-- what stands in the row of switch w for a number with this body: the body, but for a test of an array that stands elsewhere
abbrev pub body_on : (ℕ → ℕ) → ℕ → Row → Row
body_on place w (State test y z) = if place (var_of test) == w then State test y z else Go (place (var_of test))
body_on place w b = b

-- where it stands
abbrev pub place_on : (ℕ → ℕ) → ℕ → Row → (number elsewhere : ℕ) → ℕ
place_on place w (State test y z) n elsewhere = if place (var_of test) == w then n else elsewhere
place_on place w b n elsewhere = n

-- what stands where a number with this body isn't decided, which is so of tests of arrays alone
abbrev pub gone : (ℕ → ℕ) → Row → Row
gone place (State test y z) = Go (place (var_of test))
gone place b = Go 0

-- the bodies of numbers, and behind them what stands elsewhere
abbrev pub with_gone : (ℕ → ℕ) → List Row → List Row
with_gone place bodies = bodies ++ map (gone place) bodies

-- the row of a switch and number, where their pair is marked
abbrev pub demanded : Tables → List Row → List Switches → ℕ → ℕ → Option Row
demanded t bodies marks w n = if has_pair marks w n then option_map (body_on (place_of t) w) (slice_get bodies n)
    else None

-- of numbers with these nodes the rows of all pairs that are demanded
pub record AreDemandedRows (t : Tables) (nodes : List Row) (rows : List RowAt) : Type 0 where
  pub bodies : List Row
  pub marks : List Switches
  pub marked : AreDemanded t (slice_get nodes) (length nodes) (length nodes) marks
  pub bodies_are : bodies ≡ map (staged (place_of t)) nodes
  pub are : map row_entry rows ≡ at_switches (demanded t bodies marks) (length t.switches) (length bodies)

-- the same for some numbers of a root's nodes
pub record AreNumberedRows (t : Tables) (ns : List (Node Leaf)) (root : ℕ) (rows : List RowAt) : Type 0 where
  pub ids : List ℕ
  pub numbers : List ℕ
  pub numbering : IsNumbering ns root ids (slice_index numbers)
  pub wide : length numbers ≡ length ns
  pub rows_are : AreDemandedRows t (map (body_of ns ids numbers) (range_with_len 0 (length ids))) rows

-- however the nodes below a root of an arena are numbered, they are nodes for the tables
abbrev pub CanBeNumbered : Tables → List (Node Leaf) → ℕ → Type 0
CanBeNumbered t ns root = IsArena ns → (ids : List ℕ) (number : ℕ → ℕ)
    → IsNumbering ns root ids number → HasNodes t (numbered_nodes ns ids number)
