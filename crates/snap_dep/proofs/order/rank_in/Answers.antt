use Rattle.std.proofs.Common.{◌≡◌, ◌<◌, ◌∙◌, length, get_or, subst, sym, arith, below_more}
use Rattle.std.proofs.lemmas.Bool.{false≢true}
use Rattle.std.proofs.lemmas.List.{get_or_default}
use Rattle.snap_dep.specs.Dependencies.{Tied}
use Rattle.snap_dep.proofs.GroupLemmas.{group_of}
use Rattle.snap_dep.proofs.order.rank_in.Goals as goal

pub returns : goal.returns
returns c = λ p below same ranked.
    let g = group_of p (length c.args.rows.now) below c.args.var c.requires.within in
    let at = ranked.all g.0 g.1 in
    let place : at.0 < length c.args.order.now = at.1 in
    let is : g.0 ≡ get_or c.args.order.now at.0 0 = sym at.2 ∙ get_or_default c.args.order.now at.0 g.0 0 at.1 in
    absurd (c.loop-rank.invariant p same at.0 (omega (arith, place)) (subst (λ h. Tied p h c.args.var) is g.2))

pub loop-rank-preserved : goal.loop-rank-preserved
loop-rank-preserved c = λ p same. below_more (λ i. Tied p (get_or c.args.order.now i 0) c.args.var → ⊥) c.loop-rank.rank (c.loop-rank.invariant p same) (λ t. false≢true (sym c.if-are_tied.false ∙ (c.are_tied.ensures p same).1 t))
