-- Quiet below consistent facts.
use Rattle.std.proofs.Common.{◌+◌, ◌≤◌, ◌^◌, List, length, sym, subst, arith}
use Rattle.std.specs.List.{All}
use Rattle.snap_context.specs.declared.fact.Fact.{Fact}
use Rattle.snap_diagrams.specs.Diagrams.{diagram, depth, IsNodeOf}
use Rattle.snap_diagrams.specs.Quiet.{StandsBefore}
use Rattle.snap_diagrams.proofs.Quieting.{depth_le, stays_live}
use Rattle.snap_diagrams.proofs.quiet.stays.Goals as goal

pub returns-in-Ask : goal.returns-in-Ask
returns-in-Ask c =
    let l = subst (IsNodeOf c.args.nodes.now c.args.d) c.in-Ask.is c.look.ensures in
    let few : length c.args.ctx.now.classes ≤ 64 = omega (arith, c.comps.ensures, c.if-comps-gt64.false) in
    let low = depth_le c.args.nodes.now c.count-arena.ensures.arena c.args.d c.requires.d.below in
    let count : length c.facts-facts.result.now ≤ 2147483648 = omega (arith, c.len.ensures, c.if-len-gt-MOST.false) in
    let short : length c.args.ctx.now.facts + depth (diagram c.args.nodes.now c.args.d) ≤ 2 ^ 32
    = rw (sym c.facts-facts.ensures.facts) (omega (arith, low, count, c.if-d-gt-MOST.false)) in
    λ t. stays_live c.args.groups.now c.args.survey.now c.requires.marked.clear c.args.ctx.now c.in-Ask.test _ _ (diagram c.args.nodes.now c.args.d) l.0 few c.facts-facts.ensures.met c.facts-facts.ensures.tests
    (subst (λ (fs : List Fact). All (StandsBefore c.args.groups.now.ranks c.args.survey.now c.in-Ask.test) fs) c.facts-facts.ensures.facts (c.all_before.ensures t))
    (c.is_noted.ensures c.if-not-is_noted.false) c.requires.d.keeps short
