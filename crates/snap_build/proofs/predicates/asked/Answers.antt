-- The first leaf stays.
use Rattle.std.proofs.Common.{◌∙◌}
use Rattle.std.proofs.lemmas.Result.{IfOk-weaker}
use Rattle.snap_diagrams.proofs.Shared.{argument_kept, kept}
use Rattle.snap_build.proofs.Doing.{tested_is}
use Rattle.snap_build.proofs.predicates.asked.Goals as goal

pub ite-requires-clause-yes : goal.ite-requires-clause-yes
ite-requires-clause-yes c = argument_kept c.args.groups.now c.args.ctx.now c.leaf.new.nodes c.leaf-2.new.nodes c.in_ok-yes.yes c.leaf-2.ensures.extends_arena c.in_ok-yes.ensures.diagram

pub returns-clause-test : goal.returns-clause-test
returns-clause-test c =
    let ky = kept c.leaf.new.nodes c.leaf-2.new.nodes c.in_ok-yes.yes c.leaf-2.ensures.extends_arena c.in_ok-yes.ensures.diagram.below in
    IfOk-weaker c.ite.result _ _ (λ d w. tested_is c.leaf-2.new.nodes c.ite.new.nodes c.args.test c.args.reads c.in_ok-yes.yes c.in_ok-no.no d (ky ∙ c.in_ok-yes.ensures.is) c.in_ok-no.ensures.is w) c.ite.ensures.walks
