-- Nothing is dead behind facts that stand aside.
use Rattle.std.proofs.Common.{◌+◌, ◌≤◌, ◌^◌, List, length, sym, subst, arith}
use Rattle.std.specs.Prelude.{IfSome, Option}
use Rattle.std.specs.List.{All}
use Rattle.snap_context.specs.declared.fact.Fact.{Fact}
use Rattle.snap_context.specs.declared.tested.Tested.{Tested}
use Rattle.snap_diagrams.specs.Diagrams.{diagram, depth, IsNodeOf}
use Rattle.snap_diagrams.specs.Places.{StandsAside}
use Rattle.snap_diagrams.specs.Tested.{TestsOver}
use Rattle.snap_diagrams.proofs.Placing.{places_live}
use Rattle.snap_diagrams.proofs.Quieting.{depth_le}
use Rattle.snap_diagrams.proofs.places.stays_free.Goals as goal

pub returns-in-Ask : goal.returns-in-Ask
returns-in-Ask c =
    let l = subst (IsNodeOf c.args.nodes.now c.args.d) c.in-Ask.is c.look.ensures in
    let low = depth_le c.args.nodes.now c.count-arena.ensures.arena c.args.d c.requires.d.below in
    let count : length c.facts-facts.result.now ≤ 2147483648 = omega (arith, c.len.ensures, c.if-len-gt-MOST.false) in
    let short : length c.args.ctx.now.facts + depth (diagram c.args.nodes.now c.args.d) ≤ 2 ^ 32
    = rw (sym c.facts-facts.ensures.facts) (omega (arith, low, count, c.if-d-gt-MOST.false)) in
    λ t. places_live c.args.groups.now c.args.ctx.now c.facts-facts.ensures.context c.in-Some.mark c.args.spelling c.bound_ones-bound.result c.in-Ask.test _ _ (diagram c.args.nodes.now c.args.d) l.0
    c.bound_ones-bound.ensures (c.are_apart.ensures c.if-not-are_apart.false)
    (subst (λ (fs : List Fact). All (StandsAside c.args.groups.now.ranks c.args.ctx.now.classes c.bound_ones-bound.result c.in-Some.mark.arrays c.in-Ask.test) fs) c.facts-facts.ensures.facts (c.all_aside.ensures t))
    (c.is_noted.ensures c.if-not-is_noted.false) (subst (λ (o : Option Tested). IfSome o (λ mark. TestsOver mark (diagram c.args.nodes.now c.args.d))) c.in-Some.is c.mark_at.ensures) c.requires.d.keeps short
