-- The leaf of the updates, and what it does.
use Rattle.std.proofs.Common.{◌∙◌, ◌++◌, List, sym, ap, subst}
use Rattle.std.proofs.lemmas.Result.{IfOk-weaker}
use Rattle.snap_core.specs.declared.policy.Update.{Update}
use Rattle.snap_diagrams.specs.Bounds.{LeafIn}
use Rattle.snap_diagrams.specs.Contexts.{Met}
use Rattle.snap_diagrams.specs.Diagrams.{walk}
use Rattle.snap_diagrams.specs.Leaves.{answer_of, outcome_of}
use Rattle.snap_diagrams.specs.Picks.{sizes}
use Rattle.snap_diagrams.specs.Pruned.{IsLive}
use Rattle.snap_compose.specs.Additions.{AreSame}
use Rattle.snap_build.specs.Parts.{update_leaf, updates_of}
use Rattle.snap_build.proofs.Alone.{leaf_fits, leaf_evals}
use Rattle.snap_build.proofs.updating.in_one.Goals as goal

pub only-requires : goal.only-requires
only-requires c =
    let p = c.args.pol.now in
    let us : List Update = c.push_all.new.updates.items in
    subst (LeafIn (sizes c.args.groups.now c.args.ctx.now))
    (sym (c.in_ok-leaf.ensures ∙ ap (update_leaf us) c.in_ok-writes.ensures.writes))
    (leaf_fits (sizes c.args.groups.now c.args.ctx.now) p us c.requires.alone c.requires.fits
    (subst (λ (xs : List Update). AreSame us (xs ++ updates_of p)) c.new-updates.ensures.items c.in_ok-writes.ensures.same))

pub returns-clause-does : goal.returns-clause-does
returns-clause-does c =
    let p = c.args.pol.now in
    let us : List Update = c.push_all.new.updates.items in
    IfOk-weaker c.only.result _ _ (λ d only. λ m k met small.
    ap (λ x. outcome_of (answer_of (walk x m k) k) m) only
    ∙ ap (λ l. outcome_of (answer_of l k) m) (c.in_ok-leaf.ensures ∙ ap (update_leaf us) c.in_ok-writes.ensures.writes)
    ∙ leaf_evals p us m k c.requires.alone
    (subst (λ (xs : List Update). AreSame us (xs ++ updates_of p)) c.new-updates.ensures.items c.in_ok-writes.ensures.same)) c.only.ensures.is

pub returns-clause-live : goal.returns-clause-live
returns-clause-live c = IfOk-weaker c.only.result _ _ (λ d only. subst (IsLive (Met c.args.ctx.now)) (sym only) tt) c.only.ensures.is
