-- One out more.
use Rattle.std.proofs.Common.{sym, arith, ap, length}
use Rattle.std.proofs.lemmas.Result.{IfOk-weaker}
use Rattle.snap_diagrams.specs.Diagrams.{diagram}
use Rattle.snap_diagrams.specs.Picks.{sizes}
use Rattle.snap_diagrams.proofs.Shared.{kept, argument_kept}
use Rattle.snap_compose.proofs.Settled.{any_more, head_fits, tail_fits}
use Rattle.snap_compose.proofs.separating.+where_any.Goals as goal

pub where_any-requires : goal.where_any-requires
where_any-requires t c =
    let e = c.in-Some.ensures.cases.0 in
    let l = ap length e in
    (omega (arith, l, c.decreases), (c.requires.yes, (c.requires.no, (c.requires.out, tail_fits (sizes c.args.groups.now c.args.ctx.now).comps c.args.others.now c.in-Some.more.now c.in-Some.first.now e c.requires.others))))

pub where_equal-requires-clause-yes : goal.where_equal-requires-clause-yes
where_equal-requires-clause-yes t c = argument_kept c.args.groups.now c.args.ctx.now c.args.nodes.now c.where_any.new.nodes c.args.yes c.where_any.ensures.extends_arena c.requires.yes

pub where_equal-requires-clause-b : goal.where_equal-requires-clause-b
where_equal-requires-clause-b t c = head_fits (sizes c.args.groups.now c.args.ctx.now).comps c.args.others.now c.in-Some.more.now c.in-Some.first.now c.in-Some.ensures.cases.0 c.requires.others

pub returns-in_ok-rest-in-Some-clause-split : goal.returns-in_ok-rest-in-Some-clause-split
returns-in_ok-rest-in-Some-clause-split t c =
    let e = c.in-Some.ensures.cases.0 in
    let ky = kept c.args.nodes.now c.where_any.new.nodes c.args.yes c.where_any.ensures.extends_arena c.requires.yes.below in
    IfOk-weaker c.where_equal.result _ _ (λ d s. rw e (any_more c.args.groups.now c.args.ctx.now (sizes c.args.groups.now c.args.ctx.now).comps c.args.out.now c.in-Some.first.now c.in-Some.more.now (diagram c.args.nodes.now c.args.yes) (diagram c.args.nodes.now c.args.no)
    (diagram c.where_any.new.nodes c.in_ok-rest-in-Some.rest) (diagram c.where_equal.new.nodes d) c.in_ok-rest-in-Some.ensures.split (rw (sym ky, sym c.comps.ensures) s))) c.where_equal.ensures.split
