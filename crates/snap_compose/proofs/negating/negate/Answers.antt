-- Leaf by leaf.
use Rattle.std.proofs.lemmas.Result.{IfOk-weaker}
use Rattle.snap_diagrams.specs.Diagrams.{diagram}
use Rattle.snap_compose.proofs.Turning.{negated_answer}
use Rattle.snap_compose.proofs.negating.negate.Goals as goal

pub returns-clause-predicate : goal.returns-clause-predicate
returns-clause-predicate c = IfOk-weaker c.negated.result _ _ (λ d j. λ m k. (negated_answer (diagram c.args.nodes.now c.args.a) (diagram c.negated.new.nodes d) m k j (c.requires.predicate m k)).0) c.negated.ensures.negated

pub returns-clause-answer : goal.returns-clause-answer
returns-clause-answer c = IfOk-weaker c.negated.result _ _ (λ d j. λ m k. (negated_answer (diagram c.args.nodes.now c.args.a) (diagram c.negated.new.nodes d) m k j (c.requires.predicate m k)).1) c.negated.ensures.negated

pub returns-clause-walks : goal.returns-clause-walks
returns-clause-walks c = IfOk-weaker c.negated.result _ _ (λ d j. j.walks) c.negated.ensures.negated
