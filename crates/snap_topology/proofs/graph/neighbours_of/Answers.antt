use Rattle.std.proofs.Common.{arith}
use Rattle.std.proofs.lemmas.Grind.{common_steps}
use Rattle.std.proofs.lemmas.List.Sorted.{IsNonDecreasingBy-from_sort}
use Rattle.snap_topology.proofs.Joined.{Linked-from, Linked-moved}
use Rattle.snap_topology.proofs.graph.neighbours_of.Goals as goal

pub returns-clause-linked : goal.returns-clause-linked
returns-clause-linked c =
    let so_far = c.loop-a.invariant in
    rw c.new.ensures (Linked-moved c.args.links.now c.args.switch c.loop-a.switches.items c.sort_unstable.new.self.items c.sort_unstable.ensures.permutation
    (Linked-from c.args.links.now c.args.switch c.loop-a.switches.items (grind (arith, common_steps))))

pub returns-clause-rise : goal.returns-clause-rise
returns-clause-rise c = rw c.new.ensures (IsNonDecreasingBy-from_sort (λ x. x) c.sort_unstable.new.self.items c.sort_unstable.ensures.sorted)
