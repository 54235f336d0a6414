-- One out, and then the others.
use Rattle.std.proofs.Common.{rules, arith, ap, length}
use Rattle.snap_diagrams.specs.Picks.{sizes}
use Rattle.snap_compose.proofs.Settled.{head_fits, tail_fits}
use Rattle.snap_compose.proofs.separating.+all_added.Goals as goal

pub added-requires : goal.added-requires
added-requires t c = record { first = c.requires.d; fits = head_fits (sizes c.args.groups.now c.args.ctx.now).comps c.args.outs.now c.in-Some.more.now c.in-Some.first.now c.in-Some.ensures.cases.0 c.requires.outs; known = search rules }

pub all_added-requires : goal.all_added-requires
all_added-requires t c =
    let e = c.in-Some.ensures.cases.0 in
    let l = ap length e in
    (omega (arith, l, c.decreases), (record { below = c.in_ok-w-in-Some.ensures.number; keeps = c.in_ok-w-in-Some.ensures.wider.keeps }, tail_fits (sizes c.args.groups.now c.args.ctx.now).comps c.args.outs.now c.in-Some.more.now c.in-Some.first.now e c.requires.outs))
