-- The first atoms, and the others.
use Rattle.std.proofs.Common.{sym}
use Rattle.std.proofs.lemmas.Result.{IfOk-weaker}
use Rattle.snap_core.specs.declared.policy.Atom.TheVariants.{Num}
use Rattle.snap_diagrams.specs.Diagrams.{diagram}
use Rattle.snap_diagrams.specs.Picks.{sizes}
use Rattle.snap_diagrams.proofs.Shared.{kept, argument_kept}
use Rattle.snap_compose.proofs.Splitting.{same_lists, early_first}
use Rattle.snap_compose.proofs.pending_updates.+where_same.Goals as goal

pub split-requires-clause-no : goal.split-requires-clause-no
split-requires-clause-no t c = argument_kept c.args.groups.now c.args.ctx.now c.args.nodes.now c.where_same.new.nodes c.args.no c.where_same.ensures.extends_arena c.requires.no

pub split-requires-clause-test : goal.split-requires-clause-test
split-requires-clause-test t c =
    (early_first (sizes c.args.groups.now c.args.ctx.now) c.args.left.now c.args.right.now c.as_term.result c.same_value-early.result c.in-len1-up.len_at_least c.in-len1-up-right.len_at_least c.requires.left c.requires.right c.as_term.ensures (c.same_value-early.ensures (sizes c.args.groups.now c.args.ctx.now))).is_in

pub returns-in_ok-rest-in-len1-up-right-clause-split :
    goal.returns-in_ok-rest-in-len1-up-right-clause-split
returns-in_ok-rest-in-len1-up-right-clause-split t c =
    let e = early_first (sizes c.args.groups.now c.args.ctx.now) c.args.left.now c.args.right.now c.as_term.result c.same_value-early.result c.in-len1-up.len_at_least c.in-len1-up-right.len_at_least c.requires.left c.requires.right c.as_term.ensures (c.same_value-early.ensures (sizes c.args.groups.now c.args.ctx.now)) in
    let kn = kept c.args.nodes.now c.where_same.new.nodes c.args.no c.where_same.ensures.extends_arena c.requires.no.below in
    IfOk-weaker c.split.result _ _ (λ d s. same_lists c.args.groups.now c.args.ctx.now c.args.left.now c.args.right.now (Num 0) (Num 0) c.same_value-early.result (diagram c.args.nodes.now c.args.yes) (diagram c.args.nodes.now c.args.no)
    (diagram c.where_same.new.nodes c.in_ok-rest-in-len1-up-right.rest) (diagram c.split.new.nodes d) c.in-len1-up.len_at_least c.in-len1-up-right.len_at_least c.requires.right e c.in_ok-rest-in-len1-up-right.ensures.split (rw (sym kn) s)) c.split.ensures.split
