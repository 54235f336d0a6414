-- One more fact falls apart.
use Rattle.std.proofs.Common.{◌≡◌, ◌∷◌, length}
use Rattle.snap_context.specs.declared.fact.Fact.{Fact}
use Rattle.snap_context.specs.Classes.{IsTest}
use Rattle.snap_context.specs.Known.{IsRooted}
use Rattle.snap_context.proofs.Walks.{all_behind, others_are}
use Rattle.snap_context.proofs.rooted.facts_rooted.Goals as goal

pub loop-fact-preserved : goal.loop-fact-preserved
loop-fact-preserved c =
    let f : Fact = c.in-Some.fact.now in
    let left = c.loop-fact.fact-iterator.left.now in
    let others = c.next.new.self.left.now in
    let next : left ≡ f ∷ others = c.in-Some.ensures.steps in (
      others_are (λ (g : Fact). IsTest (length c.args.classes.now) g.test) f left others next c.loop-fact.invariant.0,
      all_behind (IsRooted c.args.classes.now c.args.roots c.args.settled) f left others c.args.facts.now next (c.fact_rooted.ensures c.if-not-fact_rooted.false) c.loop-fact.invariant.1,
    )
