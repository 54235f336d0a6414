-- One more fact is there.
use Rattle.std.proofs.Common.{◌≡◌, ◌∷◌, length, map}
use Rattle.snap_context.specs.declared.fact.Fact.{Fact}
use Rattle.snap_context.specs.Classes.{IsTest, atom_class}
use Rattle.snap_context.specs.Known.{IsAtSpot}
use Rattle.snap_context.proofs.Walks.{all_behind, others_are}
use Rattle.snap_context.proofs.settled.all_at.Goals as goal

pub loop-fact-preserved : goal.loop-fact-preserved
loop-fact-preserved c =
    let f : Fact = c.in-Some.fact.now in
    let left = c.loop-fact.fact-iterator.left.now in
    let others = c.next.new.self.left.now in
    let next : left ≡ f ∷ others = c.in-Some.ensures.steps in (
      others_are (λ (g : Fact). IsTest (length c.args.classes.now) g.test) f left others next c.loop-fact.invariant.0,
      all_behind (IsAtSpot c.args.classes.now c.args.var (map (atom_class c.args.classes.now) c.args.index.now)) f left others c.args.facts.now next (c.is_at.ensures c.if-not-is_at.false) c.loop-fact.invariant.1,
    )
