use Rattle.std.proofs.Common.{◌≡◌, drop}
use Rattle.snap_topology.specs.Spells.{is_switch}
use Rattle.snap_topology.proofs.names.is_among.Given as goal

abbrev pub invariant-loop-known : goal.invariant-loop-known
invariant-loop-known l = is_switch (drop l.known-index l.names) l.name ≡ is_switch l.names l.name
