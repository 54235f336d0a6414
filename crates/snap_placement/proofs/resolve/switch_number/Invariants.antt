use Rattle.std.proofs.Common.{◌≡◌, ◌+◌, drop}
use Rattle.snap_topology.specs.Spells.{is_switch, number_of}
use Rattle.snap_placement.proofs.resolve.switch_number.Given as goal

abbrev pub invariant-loop-at : goal.invariant-loop-at
invariant-loop-at l = record { known : is_switch (drop l.at l.switches) l.name ≡ is_switch l.switches l.name; number : l.at + number_of (drop l.at l.switches) l.name ≡ number_of l.switches l.name }
