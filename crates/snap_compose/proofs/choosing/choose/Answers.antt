-- Leaf by leaf.
use Rattle.std.proofs.lemmas.Result.{IfOk-weaker}
use Rattle.snap_diagrams.proofs.Remembering.{remembers_none}
use Rattle.snap_diagrams.specs.Diagrams.{diagram}
use Rattle.snap_compose.proofs.Chosen.{answer_of-chosen}
use Rattle.snap_compose.proofs.choosing.choose.Goals as goal

pub chosen-requires : goal.chosen-requires
chosen-requires c = record { test = c.requires.x; yes = c.requires.p; no = c.requires.q; known = rw c.new-memo.ensures (remembers_none _) }

pub returns-clause-answer : goal.returns-clause-answer
returns-clause-answer c = IfOk-weaker c.chosen.result _ _ (λ d h. λ m k met. answer_of-chosen c.args.groups.now.ranks _ (diagram c.args.nodes.now c.args.x) (diagram c.args.nodes.now c.args.p) (diagram c.args.nodes.now c.args.q) (diagram c.chosen.new.nodes d) m k h (c.requires.predicate m k)) c.chosen.ensures.chosen

pub returns-clause-walks : goal.returns-clause-walks
returns-clause-walks c = IfOk-weaker c.chosen.result _ _ (λ d h. h.walks) c.chosen.ensures.chosen
