-- Leaf by leaf.
use Rattle.std.proofs.lemmas.Result.{IfOk-weaker}
use Rattle.snap_diagrams.specs.Diagrams.{diagram}
use Rattle.snap_compose.proofs.Tested.{both_joined}
use Rattle.snap_compose.proofs.joining.both.Goals as goal

pub returns-clause-predicate : goal.returns-clause-predicate
returns-clause-predicate c = IfOk-weaker c.combine.result _ _ (λ d j. λ m k. (both_joined c.args.groups.now.ranks _ (diagram c.args.nodes.now c.args.a) (diagram c.args.nodes.now c.args.b) (diagram c.combine.new.nodes d) j c.requires.first c.requires.second m k).0) c.combine.ensures.joined

pub returns-clause-answer : goal.returns-clause-answer
returns-clause-answer c = IfOk-weaker c.combine.result _ _ (λ d j. λ m k met. (both_joined c.args.groups.now.ranks _ (diagram c.args.nodes.now c.args.a) (diagram c.args.nodes.now c.args.b) (diagram c.combine.new.nodes d) j c.requires.first c.requires.second m k).1) c.combine.ensures.joined

pub returns-clause-walks : goal.returns-clause-walks
returns-clause-walks c = IfOk-weaker c.combine.result _ _ (λ d j. j.walks) c.combine.ensures.joined
