-- As picked.
use Rattle.std.proofs.lemmas.Result.{IfOk-weaker}
use Rattle.snap_diagrams.specs.Diagrams.{diagram}
use Rattle.snap_diagrams.proofs.Picking.{picked_answer}
use Rattle.snap_diagrams.proofs.pick.ite.Goals as goal

pub returns-clause-walks : goal.returns-clause-walks
returns-clause-walks c = IfOk-weaker c.pick.result _ _ (λ d p. λ m k. p.walks m k tt) c.pick.ensures.pick

pub returns-clause-answer : goal.returns-clause-answer
returns-clause-answer c = IfOk-weaker c.pick.result _ _ (λ d p. λ m k met. picked_answer c.args.groups.now.ranks _ c.args.test (diagram c.args.nodes.now c.args.yes) (diagram c.args.nodes.now c.args.no) (diagram c.pick.new.nodes d) p m k) c.pick.ensures.pick
