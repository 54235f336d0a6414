-- One fact more.
use Rattle.std.proofs.Common.{◌≡◌, ◌∷◌, length}
use Rattle.snap_context.specs.declared.fact.Fact.{Fact}
use Rattle.snap_context.specs.Classes.{IsTest}
use Rattle.snap_context.proofs.Walks.{all_behind, others_are}
use Rattle.snap_diagrams.specs.Places.{StandsAside}
use Rattle.snap_diagrams.proofs.places.all_aside.Goals as goal

pub loop-fact-preserved : goal.loop-fact-preserved
loop-fact-preserved c =
    let f : Fact = c.in-Some.fact.now in
    let left = c.loop-fact.fact-iterator.left.now in
    let others = c.next.new.self.left.now in
    let next : left ≡ f ∷ others = c.in-Some.ensures.steps in (
      others_are (λ (g : Fact). IsTest (length c.args.ctx.now.classes) g.test) f left others next c.loop-fact.invariant.0,
      all_behind (StandsAside c.args.groups.now.ranks c.args.ctx.now.classes c.args.bound c.args.arrays c.args.test.now) f left others c.args.facts.now next (c.stands_aside.ensures c.if-not-stands_aside.false) c.loop-fact.invariant.1,
    )
