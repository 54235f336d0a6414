-- Those left are to be dealt out.
use Rattle.std.specs.List.{All}
use Rattle.snap_diagrams.specs.Forgotten.{AreDealt, Simulates}
use Rattle.snap_diagrams.proofs.forgetting.deal_all.Given as goal

abbrev pub invariant-loop-fact : goal.invariant-loop-fact
invariant-loop-fact l = record {
  done : All (Simulates l.groups.ranks l.ctx.classes l.mark l.test) l.gone.items;
  dealt : AreDealt l.fact-iterator.left.now l.ctx.facts l.stay.items l.gone.items;
}
