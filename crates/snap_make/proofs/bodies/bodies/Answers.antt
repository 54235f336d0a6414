use Rattle.std.proofs.Common.{rules, ◌≡◌, ◌<◌, ◌++◌, ◌∷◌, [], Some, length, slice_get, slice_index, sym, ap, subst, ◌∙◌, arith}
use Rattle.std.specs.Prelude.{unwrap_or}
use Rattle.std.proofs.lemmas.List.FromFn.{map-range_with_len_more}
use Rattle.std.proofs.lemmas.Option.{slice_get-get_or}
use Rattle.snap_rows.specs.declared.tables.Row.TheVariants as row
use Rattle.snap_faithful.specs.Shown.{row_of}
use Rattle.snap_make.specs.Shares.{body_of}
use Rattle.snap_make.proofs.Marking.{node_is}
use Rattle.snap_make.proofs.bodies.bodies.Goals as goal

pub loop-number-preserved : goal.loop-number-preserved
loop-number-preserved c =
    let nodes = c.args.nodes.now in
    let ids = c.args.numbering.now.ids.items in
    let numbers = c.args.numbering.now.numbers.items in
    let n = c.loop-number.number in
    let low : n < length ids = search rules in
    let at : slice_get ids n ≡ Some c.index.result.now = slice_get-get_or ids n c.index.result.now low ∙ ap Some (search rules) in
    let is = node_is nodes ids numbers c.requires n c.index.result.now at c.get-node.result.now c.get-node.ensures.at in
    let ties : c.deref.result.now ≡ numbers = c.deref.ensures.value in
    let made : c.in_ok-node_row.field-0 ≡ row_of (slice_index numbers) c.get-node.result.now =
    subst (λ xs. c.in_ok-node_row.field-0 ≡ row_of (slice_index xs) c.get-node.result.now) ties c.in_ok-node_row.ensures in
    let body : c.in_ok-node_row.field-0 ≡ body_of nodes ids numbers n = made ∙ sym (ap (λ o. unwrap_or o row.Stop) is) in
    c.in_ok-push.ensures.items ∙ (λ i. c.loop-number.invariant i ++ body i ∷ []) ∙ sym (map-range_with_len_more (body_of nodes ids numbers) 0 n n (omega arith))
