use Rattle.std.proofs.Common.{ℕ, Option, sym, subst, ◌∙◌}
use Rattle.std.specs.Prelude.{slice_index}
use Rattle.snap_rows.specs.declared.tables.Row.{Row}
use Rattle.snap_faithful.specs.OnDemand.{HasNodes}
use Rattle.snap_make.proofs.Sharing.{numbered_is}
use Rattle.snap_make.proofs.on_demand.rows.Goals as goal

pub demanded_rows-requires-clause-nodes : goal.demanded_rows-requires-clause-nodes
demanded_rows-requires-clause-nodes c =
    let ids = c.in_ok-numbering.numbering.ids.items in
    let numbers = c.in_ok-numbering.numbering.numbers.items in
    let num = c.in_ok-numbering.ensures.numbering in
    subst (λ (f : ℕ → Option Row). HasNodes c.args.outline.now f)
    (λ j i. sym (numbered_is c.args.nodes.now ids numbers (record { root = c.args.root; numbering = num; wide = c.in_ok-numbering.ensures.wide }) c.deref.result.now (c.deref.ensures.value ∙ c.in_ok-bodies.ensures) i) j)
    (c.requires.nodes c.number.ensures.arena ids (slice_index numbers) num)
