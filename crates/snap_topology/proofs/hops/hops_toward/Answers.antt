use Rattle.std.proofs.Common.{◌≡◌, [], ℕ, List, rules, subst, sym, arith, MatchOption, slice_index}
use Rattle.std.specs.List.{Contains}
use Rattle.std.specs.List.Sorted.{IsNonDecreasing}
use Rattle.snap_topology.specs.Graphs.{neighbours_of}
use Rattle.snap_topology.specs.Hops.{IsLeastNearer, IsNearest, NoneNearer}
use Rattle.snap_topology.proofs.Reaching.{neighbours_of-read}
use Rattle.snap_topology.proofs.Nearest.{HopsUpTo, HopsUpTo-all, HopsUpTo-more, HopsUpTo-none, next-nearest}
use Rattle.snap_topology.proofs.hops.hops_toward.Goals as goal

pub first_nearer-requires-clause-below : goal.first_nearer-requires-clause-below
first_nearer-requires-clause-below c =
    let are = neighbours_of-read c.args.graph.now c.loop-at.at c.index-graph-at.result c.items.result.now c.loop-at-test.true c.index-graph-at.is c.items.ensures in
    λ m h. let low = c.requires.graph.below c.loop-at.at m (subst (λ (xs : List ℕ). Contains xs m) are h) in omega (arith, low, c.requires.distances.count)

pub first_nearer-requires-clause-rise : goal.first_nearer-requires-clause-rise
first_nearer-requires-clause-rise c =
    let are = neighbours_of-read c.args.graph.now c.loop-at.at c.index-graph-at.result c.items.result.now c.loop-at-test.true c.index-graph-at.is c.items.ensures in
    subst (λ (xs : List ℕ). IsNonDecreasing xs) (sym are) (c.requires.graph.rise c.loop-at.at c.loop-at-test.true)

pub loop-at-init : goal.loop-at-init
loop-at-init c =
    let none : c.in_ok-hops.hops.items ≡ [] = search rules in
    subst (λ (hs : List (ℕ × ℕ)). HopsUpTo c.args.graph.now c.args.target c.args.distances.now hs 0) (sym none) (HopsUpTo-none c.args.graph.now c.args.target c.args.distances.now)

pub loop-at-preserved : goal.loop-at-preserved
loop-at-preserved c =
    let graph = c.args.graph.now in
    let distances = c.args.distances.now in
    let a = c.loop-at.at in
    let d = slice_index distances a in
    let are = neighbours_of-read graph a c.index-graph-at.result c.items.result.now c.loop-at-test.true c.index-graph-at.is c.items.ensures in
    let found = subst (λ (xs : List ℕ). MatchOption c.first_nearer.result (NoneNearer xs distances d) (IsLeastNearer xs distances d)) are c.first_nearer.ensures in
    HopsUpTo-more graph c.args.target distances c.loop-at.hops.items c.push.new.self.items a c.unwrap_or-next.result (omega (arith, c.loop-at-test.true, c.requires.distances.count)) c.in_ok-push.ensures.items c.loop-at.invariant
    (λ apart. subst (λ (n : ℕ). IsNearest (neighbours_of graph a) distances n) (sym c.unwrap_or-next.ensures)
    (next-nearest graph c.args.target distances a c.first_nearer.result c.requires.graph c.requires.distances c.loop-at-test.true found apart))

pub returns : goal.returns
returns c = HopsUpTo-all c.args.graph.now c.args.target c.args.distances.now c.loop-at.hops.items c.requires.distances
    (subst (λ n. HopsUpTo c.args.graph.now c.args.target c.args.distances.now c.loop-at.hops.items n) (omega (arith, c.loop-at-test.false)) c.loop-at.invariant)
