-- The leaf, or one with the out.
use Rattle.std.proofs.Common.{◌≡◌, sym, ap, subst, ◌∙◌}
use Rattle.std.proofs.lemmas.Result.{IfOk-weaker}
use Rattle.snap_diagrams.specs.Bounds.{IsIn, LeafIn}
use Rattle.snap_diagrams.specs.Diagrams.{diagram, Only}
use Rattle.snap_diagrams.specs.declared.leaf.Leaf.TheVariants.{Go as Goes}
use Rattle.snap_diagrams.specs.Picks.{sizes}
use Rattle.snap_diagrams.proofs.Shared.{kept, argument_kept}
use Rattle.snap_compose.specs.Separating.{IsGoOf}
use Rattle.snap_compose.proofs.Settled.{wider_leaf}
use Rattle.snap_compose.proofs.separating.widened.Goals as goal

pub where_any-requires-clause-yes : goal.where_any-requires-clause-yes
where_any-requires-clause-yes c = argument_kept c.args.groups.now c.args.ctx.now c.args.nodes.now c.only.new.nodes c.args.d c.only.ensures.extends_arena c.requires.d

pub returns-in_ok-more-in-Some-clause-wider : goal.returns-in_ok-more-in-Some-clause-wider
returns-in_ok-more-in-Some-clause-wider c =
    let l = c.requires.leaf in
    let is : l.0 ≡ Goes c.in-Some.go = subst (IsGoOf l.0) c.in-Some.is (c.in_ok-go_of.ensures l.0 l.1) in
    let ed : diagram c.args.nodes.now c.args.d ≡ Only (Goes c.in-Some.go) = l.1 ∙ ap Only is in
    let fits : LeafIn (sizes c.args.groups.now c.args.ctx.now) (Goes c.in-Some.go) = subst (IsIn (sizes c.args.groups.now c.args.ctx.now)) ed c.requires.d.keeps.bounds in
    let kd = kept c.args.nodes.now c.only.new.nodes c.args.d c.only.ensures.extends_arena c.requires.d.below in
    IfOk-weaker c.where_any.result _ _ (λ r s. wider_leaf c.args.groups.now c.args.ctx.now c.in-Some.go c.args.out.now (diagram c.args.nodes.now c.args.d) (diagram c.only.new.nodes c.in_ok-more-in-Some.more) (diagram c.where_any.new.nodes r)
    ed (c.in_ok-more-in-Some.ensures.is ∙ ap Only c.in_ok-leaf-in-Some.ensures) c.requires.out fits.0 (rw (sym kd, sym c.items.ensures) s)) c.where_any.ensures.split
