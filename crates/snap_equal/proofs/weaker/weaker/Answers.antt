-- One fact more.
use Rattle.std.proofs.Common.{◌≡◌, ℕ, ◌∷◌, List, subst}
use Rattle.std.specs.Prelude.{IfSome}
use Rattle.std.proofs.lemmas.List.Elements.{All-head, All-tail}
use Rattle.snap_core.specs.Arrays.{Arrays}
use Rattle.snap_core.specs.Tests.{passes}
use Rattle.snap_context.specs.declared.context.Assumed.TheVariants.{More}
use Rattle.snap_context.specs.declared.fact.Fact.{Fact}
use Rattle.snap_context.specs.Answers.{IsAssumed}
use Rattle.snap_context.specs.Meets.{Meets}
use Rattle.snap_equal.proofs.Alike.{weaker_more}
use Rattle.snap_equal.proofs.weaker.weaker.Goals as goal

pub loop-fact-preserved-then-bears : goal.loop-fact-preserved-then-bears
loop-fact-preserved-then-bears c =
    let f : Fact = c.in-Some.fact.now in
    let others : List Fact = c.next.new.self.left.now in
    let left : (m : Arrays) (k : List ℕ) → Meets c.args.ctx.now.facts m k → Meets (f ∷ others) m k
    = λ m k h. subst (λ (fs : List Fact). Meets fs m k) c.in-Some.ensures.steps (c.loop-fact.invariant.1 m k h) in (
      weaker_more c.args.ctx.now c.loop-fact.weak c.in-Some-2.more f.test f.yes c.loop-fact.invariant.0
          (subst (λ o. IfSome o (λ x. IsAssumed c.loop-fact.weak f.test f.yes (More x))) c.in-Some-2.is c.in_ok-more.ensures)
          (λ m k h. All-head (λ (g : Fact). passes g.test m k ≡ g.yes) f others (left m k h)),
      (λ m k h. All-tail (λ (g : Fact). passes g.test m k ≡ g.yes) f others (left m k h)),
    )

pub loop-fact-preserved : goal.loop-fact-preserved
loop-fact-preserved c =
    let f : Fact = c.in-Some.fact.now in
    let others : List Fact = c.next.new.self.left.now in (
      c.loop-fact.invariant.0,
      λ m k h. All-tail (λ (g : Fact). passes g.test m k ≡ g.yes) f others (subst (λ (fs : List Fact). Meets fs m k) c.in-Some.ensures.steps (c.loop-fact.invariant.1 m k h)),
    )
