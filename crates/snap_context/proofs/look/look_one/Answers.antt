-- The fact agrees with one more.
use Rattle.std.proofs.Common.{◌≡◌, ◌∷◌, length}
use Rattle.snap_context.specs.declared.fact.Fact.{Fact}
use Rattle.snap_context.specs.Classes.{IsTest, PairRule}
use Rattle.snap_context.proofs.Walks.{all_behind, others_are}
use Rattle.snap_context.proofs.look.look_one.Goals as goal

pub loop-other-preserved : goal.loop-other-preserved
loop-other-preserved c =
    let f : Fact = c.in-Some.other.now in
    let left = c.loop-other.other-iterator.left.now in
    let others = c.next.new.self.left.now in
    let next : left ≡ f ∷ others = c.in-Some.ensures.steps in (
      others_are (λ (g : Fact). IsTest (length c.args.classes.now) g.test) f left others next c.loop-other.invariant.0,
      all_behind (PairRule c.args.classes.now c.args.fact.now) f left others c.args.facts.now next c.in_ok-look_pair.ensures c.loop-other.invariant.1,
    )

pub returns-then-not-says_what_is_held : goal.returns-then-not-says_what_is_held
returns-then-not-says_what_is_held c = (
  c.in_ok-look_alone.ensures,
  λ k d l y same. let held = c.says_what_is_held.ensures.1 (y, same.first) in let bad = rw c.if-not-says_what_is_held.true at held in absurd (cc),
)
