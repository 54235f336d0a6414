-- The test is that of the number.
use Rattle.std.proofs.Common.{true, length, sym, subst, ◌≤◌}
use Rattle.snap_core.specs.declared.policy.Test.{Test}
use Rattle.snap_core.specs.Tests.{TestFits}
use Rattle.snap_context.specs.Classes.{index_of}
use Rattle.snap_context.specs.Answers.{NoneMeetsWith}
use Rattle.snap_context.proofs.Asking.{ask_fits, ask_short}
use Rattle.snap_context.proofs.ask.attempt.Goals as goal

pub assume-requires-clause-fits : goal.assume-requires-clause-fits
assume-requires-clause-fits c =
    subst (λ (t : Test). TestFits (length c.args.ctx.now.classes) t) (sym c.in_ok-test.ensures) (ask_fits (length c.args.ctx.now.classes) c.args.ask.now c.args.num c.requires)

pub assume-requires-clause-short : goal.assume-requires-clause-short
assume-requires-clause-short c =
    subst (λ (t : Test). length (index_of t) ≤ 8) (sym c.in_ok-test.ensures) (ask_short (length c.args.ctx.now.classes) c.args.ask.now c.args.num c.requires)

pub returns : goal.returns
returns c =
    let none = rw c.in-Impossible.is at c.in_ok-ctx.ensures in
    subst (λ (t : Test). NoneMeetsWith c.args.ctx.now t true) c.in_ok-test.ensures none
