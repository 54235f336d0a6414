-- A context has a model.
use Rattle.std.proofs.Common.{◌<◌, ◌^◌, length, subst}
use Rattle.std.specs.Prelude.{All}
use Rattle.snap_context.specs.Meets.{IsMet}
use Rattle.snap_context.specs.Classes.{IsTest}
use Rattle.snap_context.specs.View.{IsContext, View}
use Rattle.snap_context.proofs.Contexts.{context_met}
use Rattle.snap_context.proofs.context.Context.facts.Goals as goal

pub returns-clause-met : goal.returns-clause-met
returns-clause-met c = subst (λ (v : View). IsMet (length v.classes) v.facts) c.self.view_is (context_met _ c.self.invariant)

pub returns-clause-tests : goal.returns-clause-tests
returns-clause-tests c = subst (λ (v : View). All (λ f. IsTest (length v.classes) f.test) v.facts) c.self.view_is c.self.invariant.rules.tests

pub returns-clause-few : goal.returns-clause-few
returns-clause-few c = subst (λ (v : View). length v.facts < 2 ^ 32) c.self.view_is c.self.invariant.many

pub returns-clause-context : goal.returns-clause-context
returns-clause-context c = subst IsContext c.self.view_is c.self.invariant
