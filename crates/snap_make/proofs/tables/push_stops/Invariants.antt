-- The bodies, and `stop` for the numbers so far.
use Rattle.std.proofs.Common.{◌≡◌, ◌++◌, map, take}
use Rattle.snap_rows.specs.declared.tables.Row.TheVariants as row
use Rattle.snap_make.proofs.tables.push_stops.Given as goal

abbrev pub invariant-loop : goal.invariant-loop
invariant-loop l = l.bodies.items ≡ l.fn.bodies.items ++ map (λ b. row.Stop) (take l.counter l.fn.bodies.items)
