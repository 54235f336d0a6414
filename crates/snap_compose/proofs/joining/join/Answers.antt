-- Rule by rule.
use Rattle.std.proofs.lemmas.Result.{IfOk-weaker}
use Rattle.snap_diagrams.specs.Diagrams.{diagram}
use Rattle.snap_compose.proofs.Combining.{joined_answer}
use Rattle.snap_compose.proofs.joining.join.Goals as goal

pub returns-clause-answer : goal.returns-clause-answer
returns-clause-answer c = IfOk-weaker c.combine.result _ _ (λ d j. λ m k met. joined_answer c.args.groups.now.ranks _ (diagram c.args.nodes.now c.args.a) (diagram c.args.nodes.now c.args.b) (diagram c.combine.new.nodes d) m k j) c.combine.ensures.joined

pub returns-clause-walks : goal.returns-clause-walks
returns-clause-walks c = IfOk-weaker c.combine.result _ _ (λ d j. j.walks) c.combine.ensures.joined
