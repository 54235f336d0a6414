use Rattle.std.proofs.Common.{◌∙◌, ap, arith, length, length-append, List, ℕ, ◌∷◌, []}
use Rattle.snap_topology.proofs.Joined.{Adjacent-more, rise-more}
use Rattle.snap_topology.proofs.graph.graph.Goals as goal

pub loop-switch-preserved : goal.loop-switch-preserved
loop-switch-preserved c = record {
  count = ap (λ (g : List (List ℕ)). length g) c.in_ok-push.ensures.items ∙ omega (arith, length-append c.loop-switch.graph.items (c.in_ok-neighbours_of.field-0 ∷ []), c.loop-switch.invariant.count);
  linked = Adjacent-more c.args.links.now c.loop-switch.graph.items _ c.in_ok-neighbours_of.field-0 c.loop-switch.switch c.loop-switch.invariant.count c.in_ok-push.ensures.items c.loop-switch.invariant.linked c.in_ok-neighbours_of.ensures.linked;
  rise = rise-more c.loop-switch.graph.items _ c.in_ok-neighbours_of.field-0 c.loop-switch.switch c.loop-switch.invariant.count c.in_ok-push.ensures.items c.loop-switch.invariant.rise c.in_ok-neighbours_of.ensures.rise;
}

pub returns-clause-linked : goal.returns-clause-linked
returns-clause-linked c = λ a m lt. c.loop-switch.invariant.linked a m (omega arith)

pub returns-clause-rise : goal.returns-clause-rise
returns-clause-rise c = λ a lt. c.loop-switch.invariant.rise a (omega arith)
