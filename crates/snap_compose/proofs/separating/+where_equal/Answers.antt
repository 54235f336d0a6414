-- One component more.
use Rattle.std.proofs.Common.{sym, arith, ◌<◌, ◌-◌}
use Rattle.std.proofs.lemmas.Result.{IfOk-weaker}
use Rattle.snap_diagrams.specs.Diagrams.{diagram}
use Rattle.snap_diagrams.specs.Picks.{sizes}
use Rattle.snap_diagrams.proofs.Shared.{kept, argument_kept}
use Rattle.snap_compose.proofs.Settled.{early_equal, equal_more}
use Rattle.snap_compose.proofs.separating.+where_equal.Goals as goal

pub split-requires-clause-no : goal.split-requires-clause-no
split-requires-clause-no t c = argument_kept c.args.groups.now c.args.ctx.now c.args.nodes.now c.where_equal.new.nodes c.args.no c.where_equal.ensures.extends_arena c.requires.no

pub split-requires-clause-test : goal.split-requires-clause-test
split-requires-clause-test t c =
    (early_equal (sizes c.args.groups.now c.args.ctx.now) c.args.a.now c.args.b.now (c.args.comps - 1) c.atom_after.result c.atom_after-2.result c.as_term.result c.same_value-early.result (omega (arith, c.requires.comps, c.if-comps-eq0.false)) c.requires.a c.requires.b c.atom_after.ensures c.atom_after-2.ensures c.as_term.ensures
    (c.same_value-early.ensures (sizes c.args.groups.now c.args.ctx.now))).is_in

pub returns-clause-split : goal.returns-clause-split
returns-clause-split t c =
    let hi : c.args.comps - 1 < (sizes c.args.groups.now c.args.ctx.now).comps = omega (arith, c.requires.comps, c.if-comps-eq0.false) in
    let e = early_equal (sizes c.args.groups.now c.args.ctx.now) c.args.a.now c.args.b.now (c.args.comps - 1) c.atom_after.result c.atom_after-2.result c.as_term.result c.same_value-early.result hi c.requires.a c.requires.b c.atom_after.ensures c.atom_after-2.ensures c.as_term.ensures
    (c.same_value-early.ensures (sizes c.args.groups.now c.args.ctx.now)) in
    let kn = kept c.args.nodes.now c.where_equal.new.nodes c.args.no c.where_equal.ensures.extends_arena c.requires.no.below in
    IfOk-weaker c.split.result _ _ (λ d s. equal_more c.args.groups.now c.args.ctx.now c.args.a.now c.args.b.now c.args.comps (c.args.comps - 1) c.same_value-early.result (diagram c.args.nodes.now c.args.yes) (diagram c.args.nodes.now c.args.no)
    (diagram c.where_equal.new.nodes c.in_ok-rest.rest) (diagram c.split.new.nodes d) (omega (arith, c.if-comps-eq0.false)) hi c.requires.b e c.in_ok-rest.ensures.split (rw (sym kn) s)) c.split.ensures.split
