-- A fact's test fits.
use Rattle.std.proofs.Common.{length, sym, subst}
use Rattle.snap_context.specs.Classes.{IsTest}
use Rattle.snap_context.proofs.Roots.{index-short}
use Rattle.snap_equal.proofs.Fitting.{test_fits}
use Rattle.snap_equal.proofs.weaker.with_fact.Goals as goal

pub assume-requires-clause-fits : goal.assume-requires-clause-fits
assume-requires-clause-fits c = test_fits (length c.args.ctx.now.classes) c.test.result.now (subst (IsTest (length c.args.ctx.now.classes)) (sym c.test.ensures) c.requires)

pub assume-requires-clause-short : goal.assume-requires-clause-short
assume-requires-clause-short c = index-short (length c.args.ctx.now.classes) c.test.result.now (subst (IsTest (length c.args.ctx.now.classes)) (sym c.test.ensures) c.requires)
