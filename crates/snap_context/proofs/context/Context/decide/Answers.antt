-- Where an answer is refuted, the other always comes.
use Rattle.std.proofs.Common.{true, false, subst}
use Rattle.snap_core.specs.declared.policy.Test.{Test}
use Rattle.snap_context.specs.Answers.{NoneMeetsWith}
use Rattle.snap_context.specs.View.{IsContext}
use Rattle.snap_context.proofs.Contexts.{never_passes, always_passes, context_met}
use Rattle.snap_context.proofs.context.Context.decide.Goals as goal

pub returns-then-branch : goal.returns-then-branch
returns-then-branch c =
    let ctx : IsContext c.args.self.now = subst IsContext c.self.view_is c.self.invariant in
    let none = rw c.if-branch.true at c.in_ok-refutes.ensures in (
      never_passes c.args.self.now c.args.test.now
          (subst (λ (t : Test). NoneMeetsWith c.args.self.now t true) c.in_ok-copy_of.ensures none),
      context_met c.args.self.now ctx,
    )

pub returns-then-branch-2 : goal.returns-then-branch-2
returns-then-branch-2 c =
    let ctx : IsContext c.args.self.now = subst IsContext c.self.view_is c.self.invariant in
    let none = rw c.if-branch-2.true at c.in_ok-refutes-2.ensures in (
      always_passes c.args.self.now c.args.test.now
          (subst (λ (t : Test). NoneMeetsWith c.args.self.now t false) c.in_ok-copy_of.ensures none),
      context_met c.args.self.now ctx,
    )
