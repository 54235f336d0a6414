-- The leaf's node.
use Rattle.std.proofs.lemmas.Result.{IfOk-weaker}
use Rattle.snap_diagrams.proofs.Shared.{new_leaf, leaf_argument}
use Rattle.snap_diagrams.proofs.only.only.Goals as goal

pub returns-clause-is : goal.returns-clause-is
returns-clause-is c = IfOk-weaker c.leaf.result _ _ (λ d n. new_leaf c.leaf.new.self d c.args.leaf n.at) c.leaf.ensures.ok

pub returns-clause-diagram : goal.returns-clause-diagram
returns-clause-diagram c = IfOk-weaker c.leaf.result _ _ (λ d n. leaf_argument c.args.groups.now c.args.ctx.now c.leaf.new.self d c.args.leaf n.at c.requires) c.leaf.ensures.ok
