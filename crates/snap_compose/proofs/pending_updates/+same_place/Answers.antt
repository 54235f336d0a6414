-- The first atoms, and the others.
use Rattle.snap_core.specs.declared.policy.Atom.TheVariants.{Num}
use Rattle.snap_compose.proofs.Splitting.{said_always, said_never, said_never_behind}
use Rattle.snap_compose.proofs.pending_updates.+same_place.Goals as goal

pub returns-in-Always : goal.returns-in-Always
returns-in-Always t c = said_always c.args.left.now c.args.right.now (Num 0) (Num 0) c.same_atom.result c.same_place.result c.in-len1-up.len_at_least c.in-len1-up-right.len_at_least c.in-Always.is c.same_atom.ensures c.same_place.ensures

pub returns-in-Never : goal.returns-in-Never
returns-in-Never t c = said_never c.args.left.now c.args.right.now (Num 0) (Num 0) c.same_atom.result c.in-len1-up.len_at_least c.in-len1-up-right.len_at_least c.in-Never.is c.same_atom.ensures

pub returns-in-Never-same_place : goal.returns-in-Never-same_place
returns-in-Never-same_place t c = said_never_behind c.args.left.now c.args.right.now c.same_place-in-Unsure.result c.in-len1-up.len_at_least c.in-len1-up-right.len_at_least c.in-Never-same_place.is c.same_place-in-Unsure.ensures
