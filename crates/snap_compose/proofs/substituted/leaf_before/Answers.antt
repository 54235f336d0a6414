-- The leaf's outs and updates.
use Rattle.std.proofs.Common.{◌≡◌, ℕ, List, length, sym, subst, ◌∙◌}
use Rattle.std.specs.Prelude.{All, map}
use Rattle.snap_core.specs.declared.policy.Atom.{Atom}
use Rattle.snap_core.specs.Tests.{OutFits, after_out, results}
use Rattle.snap_diagrams.specs.declared.leaf.Leaf.TheVariants.{Go as Goes}
use Rattle.snap_diagrams.specs.Diagrams.{diagram, IsNodeOf}
use Rattle.snap_diagrams.specs.Picks.{sizes}
use Rattle.snap_compose.specs.PulledBack.{early_update}
use Rattle.snap_compose.proofs.Composing.{leaf_in, leaf_early, leaf_of_node, leaf_early_of, leaf_logs_early}
use Rattle.snap_compose.proofs.substituted.leaf_before.Goals as goal

pub returns-in_ok-updates_before-in-Go-clause-fits : goal.returns-in_ok-updates_before-in-Go-clause-fits
returns-in_ok-updates_before-in-Go-clause-fits c =
    let node = subst (IsNodeOf c.args.nodes.now c.args.d) c.in-Leaf.is c.look.ensures in
    let fits = leaf_of_node (sizes c.args.groups.now c.args.ctx.now) (diagram c.args.nodes.now c.args.d) c.in-Leaf.leaf c.in-Go.go node c.in-Go.is c.requires.d.keeps.bounds in
    rw (c.in_ok-updates_before-in-Go.ensures, c.items-in-Go.ensures) (leaf_in (sizes c.args.groups.now c.args.ctx.now) c.args.out.now c.in-Go.go c.in_ok-outs_before-in-Go.field-0 c.requires.out fits (subst (λ (n : ℕ). All (λ (o : List (ℕ × Atom)). OutFits n o) c.in_ok-outs_before-in-Go.field-0) c.comps.ensures c.in_ok-outs_before-in-Go.ensures.fits))

pub returns-in_ok-updates_before-in-Go-clause-leaf : goal.returns-in_ok-updates_before-in-Go-clause-leaf
returns-in_ok-updates_before-in-Go-clause-leaf c =
    let node = subst (IsNodeOf c.args.nodes.now c.args.d) c.in-Leaf.is c.look.ensures in
    let both : (k : List ℕ) → length k ≡ (sizes c.args.groups.now c.args.ctx.now).comps → results c.in_ok-outs_before-in-Go.field-0 k ≡ results c.in-Go.go.outs (after_out c.args.out.now k)
    = λ k len. rw c.items.ensures at (c.in_ok-outs_before-in-Go.ensures.both k (len ∙ sym c.comps.ensures)) in
    rw (c.in_ok-updates_before-in-Go.ensures, c.items-in-Go.ensures) (λ l e. leaf_early_of (sizes c.args.groups.now c.args.ctx.now).comps c.args.out.now (diagram c.args.nodes.now c.args.d) c.in-Leaf.leaf l c.in-Go.go
    (Goes (record { outs = c.in_ok-outs_before-in-Go.field-0; ups = map (early_update c.args.out.now) c.in-Go.go.ups; reads = c.in-Go.go.reads; writes = c.in-Go.go.writes })) node c.in-Go.is e (leaf_early (sizes c.args.groups.now c.args.ctx.now).comps c.args.out.now c.in-Go.go c.in_ok-outs_before-in-Go.field-0 c.requires.out both))

pub returns-in_ok-updates_before-in-Go-clause-logs : goal.returns-in_ok-updates_before-in-Go-clause-logs
returns-in_ok-updates_before-in-Go-clause-logs c =
    let node = subst (IsNodeOf c.args.nodes.now c.args.d) c.in-Leaf.is c.look.ensures in
    rw (c.in_ok-updates_before-in-Go.ensures, c.items-in-Go.ensures) (λ l e h. leaf_logs_early c.args.out.now (diagram c.args.nodes.now c.args.d) c.in-Leaf.leaf l c.in-Go.go c.in_ok-outs_before-in-Go.field-0 node c.in-Go.is e h)
