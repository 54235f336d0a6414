-- One more fact agrees with the new one, and none has to where that is on no place.
use Rattle.std.proofs.Common.{◌≡◌, ◌∷◌, length}
use Rattle.snap_context.specs.declared.fact.Fact.{Fact}
use Rattle.snap_context.specs.Classes.{IsTest, PairRule}
use Rattle.snap_context.proofs.Walks.{all_behind, others_are}
use Rattle.snap_context.proofs.look.look_beside.Goals as goal

pub loop-other-preserved : goal.loop-other-preserved
loop-other-preserved c =
    let f : Fact = c.in-Some.other.now in
    let left = c.loop-other.other-iterator.left.now in
    let others = c.next.new.self.left.now in
    let next : left ≡ f ∷ others = c.in-Some.ensures.steps in (
      others_are (λ (g : Fact). IsTest (length c.args.classes.now) g.test) f left others next c.loop-other.invariant.0,
      all_behind (λ (g : Fact). PairRule c.args.classes.now g c.args.fact.now) f left others c.args.facts.now next c.in_ok-look_pair.ensures c.loop-other.invariant.1,
    )

pub returns-then-not-is_on_place : goal.returns-then-not-is_on_place
returns-then-not-is_on_place c = (
  c.in_ok-look_one.ensures,
  (λ k d l y same. let no = c.is_on_place.ensures in let on = same.second in let bad = c.if-not-is_on_place.true in absurd (cc)),
)
