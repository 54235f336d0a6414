use Rattle.std.proofs.Common.{◌≡◌, ◌++◌, drop, flat_map}
use Rattle.snap_placement.specs.Printed.{place_line, places}
use Rattle.snap_placement.proofs.printing.put_places.Given as goal

abbrev pub invariant-loop-array : goal.invariant-loop-array
invariant-loop-array l =
    l.text.items ++ flat_map place_line (places (drop l.array l.arrays) l.switches (drop l.array l.owners)) ≡ l.initial.text.items ++ flat_map place_line (places l.arrays l.switches l.owners)
