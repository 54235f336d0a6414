-- Numbers that wait, and those that are placed, are of nodes.
use Rattle.std.proofs.Common.{◌<◌, length}
use Rattle.std.specs.Prelude.{All}
use Rattle.snap_diagrams.specs.declared.reach.Step.{Step}
use Rattle.snap_diagrams.proofs.reach.add.Given as goal

abbrev pub invariant-waiting : goal.invariant-waiting
invariant-waiting l = record {
  left : All (λ (s : Step). s.id < length l.nodes) l.left.items;
  below : All (λ d. d < length l.nodes) l.reached.ids.items;
}
