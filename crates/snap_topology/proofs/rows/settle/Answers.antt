use Rattle.std.proofs.Common.{refl, arith}
use Rattle.snap_topology.proofs.Walking.{first-unreached}
use Rattle.snap_topology.proofs.rows.settle.Goals as goal

pub returns-in_default-clause-unreached : goal.returns-in_default-clause-unreached
returns-in_default-clause-unreached c = (refl, first-unreached c.loop-switch.known.items _ c.args.distances.now c.loop-switch.switch c.loop-switch.invariant.count c.loop-switch.invariant.all (omega arith) c.in_default.is)
