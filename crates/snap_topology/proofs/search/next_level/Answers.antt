use Rattle.std.proofs.Common.{[], ℕ, Vec, Global, ap, arith, get_or, refl}
use Rattle.std.proofs.lemmas.List.Elements.{Contains-get_or}
use Rattle.snap_topology.proofs.Reaching.{neighbours_of-below, neighbours_of-read, reach-idle, reach-level, reaches-as}
use Rattle.snap_topology.proofs.search.next_level.Goals as goal
use Rattle.snap_topology.proofs.search.next_level.Goals.{then-len-left+in_ok-reach, else-len-left}

pub bounds-graph-switch : goal.bounds-graph-switch
bounds-graph-switch c = c.requires.level _ (Contains-get_or c.args.level.now c.loop-switch.switch-index 0 c.loop-switch-test.true)

pub reach-requires : goal.reach-requires
reach-requires c =
    let x = get_or c.args.level.now c.loop-switch.switch-index 0 in
    let low = c.requires.level x (Contains-get_or c.args.level.now c.loop-switch.switch-index 0 c.loop-switch-test.true) in
    neighbours_of-below c.args.graph.now c.loop-switch.distances x c.items-switches.result.now c.requires.graph (omega (arith, c.requires.count, c.loop-switch.invariant.count))
    (neighbours_of-read c.args.graph.now x c.index-graph-switch.result c.items-switches.result.now low c.index-graph-switch.is c.items-switches.ensures)

pub loop-switch-preserved : goal.loop-switch-preserved
loop-switch-preserved c =
    let x = get_or c.args.level.now c.loop-switch.switch-index 0 in
    let low = c.requires.level x (Contains-get_or c.args.level.now c.loop-switch.switch-index 0 c.loop-switch-test.true) in
    let graph = c.args.graph.now in
    let level = c.args.level.now in
    let now = c.loop-switch.distances in
    let d = c.args.distance in
    let next = c.loop-switch.next.items in
    elim c.if-len-left.branch [
      | then-len-left+in_ok-reach w ↦ reach-level graph level c.loop-switch.switch-index x d w.items-switches.result.now c.args.distances.now now c.if-len-left.distances [] next c.if-len-left.next.items
          c.loop-switch-test.true refl (neighbours_of-read graph x w.index-graph-switch.result w.items-switches.result.now low w.index-graph-switch.is w.items-switches.ensures) c.loop-switch.invariant
          (reaches-as w.items-switches.result.now d now w.reach.new.distances c.if-len-left.distances next w.reach.new.level.items c.if-len-left.next.items w.distances-is (ap (λ (v : Vec ℕ Global). v.items) w.next-is) w.in_ok-reach.ensures)
      | else-len-left w ↦ reach-idle graph level c.loop-switch.switch-index d c.args.left c.args.distances.now now c.if-len-left.distances next c.if-len-left.next.items
          c.requires.graph c.loop-switch-test.true c.requires.count c.requires.left (omega (arith, w.if-len-left.false, c.len.ensures, c.loop-switch.next.ok.0)) w.distances-is (ap (λ (v : Vec ℕ Global). v.items) w.next-is) c.loop-switch.invariant
    ]
