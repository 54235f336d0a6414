-- Which pairs are wanted and how marks are closed doesn't depend on the rows.
use Rattle.std.proofs.Common.{ℕ, Bool, List, Option}
use Rattle.snap_rows.specs.declared.tables.RowAt.{RowAt}
use Rattle.snap_rows.specs.declared.tables.Tables.{Tables}
use Rattle.snap_rows.specs.declared.tables.Row.{Row}
use Rattle.snap_rows.specs.declared.tables.Row.TheVariants.{Field, State, Go, Leaf, Stop, Last}
use Rattle.snap_rows.specs.Ways.{Way, here, on, Route, end, leg, LeadsTo}
use Rattle.snap_faithful.specs.Closed.{IsClosed}
use Rattle.snap_faithful.specs.Derived.{IsWanted, at_port, onward}
use Rattle.snap_faithful.specs.OnDemand.{row_on, place_of}

module _ (t : Tables) (rs : List RowAt) where
  abbrev with_rows : Tables
  with_rows = record t { rows = rs }

  way_with : {x w : ℕ} {ws : List ℕ} → Way t x w ws → Way (record t { rows = rs }) x w ws
  way_with here = here
  way_with (on apart way) = on apart (way_with way)

  pub route_with : {w : ℕ} {xs ws : List ℕ} → Route t w xs ws → Route (record t { rows = rs }) w xs ws
  route_with end = end
  route_with (leg way route) = leg (way_with way) (route_with route)

  leads_with : (w n : ℕ) (b : Row) (x k : ℕ) → LeadsTo t w n b x k → LeadsTo (record t { rows = rs }) w n b x k
  leads_with w n (Field test y z) x k to = to
  leads_with w n (State test y z) x k to = to
  leads_with w n (Go v) x k to = to
  leads_with w n (Leaf ss os) x k to = (to.0, (to.1.0, route_with to.1.1, to.1.2))
  leads_with w n Stop x k to = to
  leads_with w n (Last us os) x k to = to

  pub wanted_with : (nodes : ℕ → Option Row) → {w n : ℕ} → IsWanted t nodes w n → IsWanted (record t { rows = rs }) nodes w n
  wanted_with nodes (at_port c) = at_port c
  wanted_with nodes (onward {w = w} {n = n} {x = x} {k = k} {c = c} before node to) = onward (wanted_with nodes before) node (leads_with w n (row_on (place_of t) w c) x k to)

pub closed_with : (t : Tables) (rs : List RowAt) (nodes : ℕ → Option Row) (has : ℕ → ℕ → Bool) → IsClosed t nodes has → IsClosed (record t { rows = rs }) nodes has
closed_with t rs nodes has c = record {
  ports = c.ports;
  fields = c.fields;
  owners = c.owners;
  others = c.others;
  first = c.first;
  rest = λ w n us os s ss node is m ws route x inside. c.rest w n us os s ss node is m ws (route_with (record t { rows = rs }) t.rows route) x inside;
}
