use Rattle.std.proofs.Common.{arith, refl}
use Rattle.std.proofs.lemmas.List.Elements.{Contains-get_or}
use Rattle.snap_topology.proofs.Nearest.{IsLeastNearer-first, NoneNearer-all}
use Rattle.snap_topology.proofs.hops.first_nearer.Goals as goal

pub bounds-distances-switch : goal.bounds-distances-switch
bounds-distances-switch c = c.requires.below _ (Contains-get_or c.args.switches.now c.loop-switch.switch-index 0 c.loop-switch-test.true)

pub returns-then-distances-switch : goal.returns-then-distances-switch
returns-then-distances-switch c = IsLeastNearer-first c.args.switches.now c.args.distances.now c.args.distance c.loop-switch.switch-index _
    c.loop-switch-test.true refl c.requires.rise c.if-distances-switch.true c.loop-switch.invariant

pub returns : goal.returns
returns c = NoneNearer-all c.args.switches.now c.args.distances.now c.args.distance c.loop-switch.switch-index (omega arith) c.loop-switch.invariant
