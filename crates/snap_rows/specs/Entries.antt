-- What tables hold: rows by switch and number, nodes by number, next hops, owners and ranks.
use Rattle.std.specs.Prelude.{ℕ, ◌+◌, Bool, true, false, ◌&&◌, ◌==◌, Option, Some, None, List, [], ◌∷◌, map, max, slice_get, option_map, unwrap_or, if◌then◌else◌}
use Rattle.snap_core.specs.declared.policy.Atom.{Atom}
use Rattle.snap_core.specs.declared.policy.Test.{Test}
use Rattle.snap_core.specs.declared.policy.Test.TheVariants.{State as StateTest}
use Rattle.snap_core.specs.declared.ports.PortAt.{PortAt}
use Rattle.snap_core.specs.Ports.{port_in}
use Rattle.snap_rows.specs.declared.tables.ArrayAt.{ArrayAt}
use Rattle.snap_rows.specs.declared.tables.Hop.{Hop}
use Rattle.snap_rows.specs.declared.tables.RowAt.{RowAt}
use Rattle.snap_rows.specs.declared.tables.Tables.{Tables}
use Rattle.snap_rows.specs.declared.tables.Row.{Row}
use Rattle.snap_rows.specs.declared.tables.Row.TheVariants.{Go, Stop}

-- an out as its parts
abbrev pub Parts : Type 0
Parts = List (ℕ × Atom)

abbrev pub row_in : List RowAt → ℕ → ℕ → Option Row
row_in [] w n = None
row_in (r ∷ rs) w n = if (r.at == w) && (r.number == n) then Some r.row else row_in rs w n

-- the row of switch w and number n
abbrev pub row_at : Tables → ℕ → ℕ → Option Row
row_at t w n = row_in t.rows w n

-- whether a row says what is to be done with its number, and not only that it is done elsewhere
abbrev pub is_node : Row → Bool
is_node (Go to) = false
is_node Stop = false
is_node _ = true

abbrev pub node_in : List RowAt → ℕ → Option Row
node_in [] n = None
node_in (r ∷ rs) n = if (r.number == n) && is_node r.row then Some r.row else node_in rs n

-- the node of a number: its first row other than `go` and `stop`
abbrev pub node_of : Tables → ℕ → Option Row
node_of t n = node_in t.rows n

abbrev pub hop_in : List Hop → ℕ → ℕ → ℕ
hop_in [] w x = w
hop_in (h ∷ hs) w x = if (h.from == w) && (h.target == x) then h.next else hop_in hs w x

-- the next hop of w towards x; w itself where there is no entry
abbrev pub next : Tables → ℕ → ℕ → ℕ
next t w x = hop_in t.hops w x

-- the switch of a port
abbrev pub port_at : Tables → ℕ → Option ℕ
port_at t p = port_in t.ports p

-- the numbers of the ports
abbrev pub port_numbers : Tables → List ℕ
port_numbers t = map (λ (p : PortAt). p.port) t.ports

-- the switch of an array
abbrev pub owner_of : Tables → ℕ → Option ℕ
owner_of t v = option_map (λ (a : ArrayAt). a.at) (slice_get t.arrays v)

abbrev pub rank_of : Tables → ℕ → ℕ
rank_of t v = unwrap_or (option_map (λ (a : ArrayAt). a.rank) (slice_get t.arrays v)) 0

abbrev pub ranks_in : List ArrayAt → ℕ
ranks_in [] = 0
ranks_in (a ∷ rest) = max (a.rank + 1) (ranks_in rest)

-- the number of ranks
abbrev pub ranks : Tables → ℕ
ranks t = ranks_in t.arrays

abbrev pub rank_in : List ArrayAt → ℕ → Option ℕ
rank_in [] r = None
rank_in (a ∷ rest) r = if a.rank == r then Some a.at else rank_in rest r

-- the owner of a rank: the switch of its first array
abbrev pub rank_at : Tables → ℕ → Option ℕ
rank_at t r = rank_in t.arrays r

-- the variable of a state test
abbrev pub var_of : Test → ℕ
var_of (StateTest v es x) = v
var_of _ = 0
