use Rattle.std.proofs.Common.{subst}
use Rattle.snap_names.specs.Core.{filter}
use Rattle.snap_names.specs.Parts.{itself, HaveRead}
use Rattle.snap_names.proofs.Readings.{HasRead-whole, HasRead-whole_none}
use Rattle.snap_names.proofs.scope.Sizes.whole.Goals as goal

pub returns-in-Some-clause-policies : goal.returns-in-Some-clause-policies
returns-in-Some-clause-policies c = λ r old h. HasRead-whole itself r old c.args.self.now c.in-Some.part (subst (HaveRead itself r old c.args.self.now) c.in-Some.is h)

pub returns-in-Some-clause-tests : goal.returns-in-Some-clause-tests
returns-in-Some-clause-tests c = λ r old h. HasRead-whole filter r old c.args.self.now c.in-Some.part (subst (HaveRead filter r old c.args.self.now) c.in-Some.is h)

pub returns-in-None-clause-policies : goal.returns-in-None-clause-policies
returns-in-None-clause-policies c = λ r old h.
    HasRead-whole_none itself r old c.args.self.now c.leaf.new.self c.leaf.result (subst (HaveRead itself r old c.args.self.now) c.in-None.is h) c.leaf.ensures.arities c.leaf.ensures.nodes c.leaf.ensures.part

pub returns-in-None-clause-tests : goal.returns-in-None-clause-tests
returns-in-None-clause-tests c = λ r old h.
    HasRead-whole_none filter r old c.args.self.now c.leaf.new.self c.leaf.result (subst (HaveRead filter r old c.args.self.now) c.in-None.is h) c.leaf.ensures.arities c.leaf.ensures.nodes c.leaf.ensures.part
