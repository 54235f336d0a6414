use Rattle.std.proofs.Common.{rules, ◌≡◌, ◌+◌, Some, length, slice_get, slice_index, sym, subst, ap, ◌∙◌}
use Rattle.std.proofs.lemmas.Option.{slice_get-get_or}
use Rattle.snap_faithful.specs.Generated.{numbered_nodes}
use Rattle.snap_make.specs.Fronts.{AreMarked}
use Rattle.snap_make.proofs.Marking.{node_is, are_within, marked_on}
use Rattle.snap_make.proofs.fronts.mark_number.Goals as goal

pub returns : goal.returns
returns c =
    let at : slice_get c.args.numbering.now.ids.items c.args.number ≡ Some c.index.result.now = slice_get-get_or c.args.numbering.now.ids.items c.args.number c.index.result.now c.requires.low ∙ ap Some (search rules) in
    let is = node_is c.args.nodes.now c.args.numbering.now.ids.items c.args.numbering.now.numbers.items c.requires.numbered c.args.number c.index.result.now at c.get-node.result.now c.get-node.ensures.at in
    let within = are_within c.args.nodes.now c.args.numbering.now.ids.items c.args.numbering.now.numbers.items c.requires.numbered c.args.number c.index.result.now at c.get-node.result.now c.get-node.ensures.at in
    let ties : c.deref.result.now ≡ c.args.numbering.now.numbers.items = c.deref.ensures.value in
    subst (AreMarked (numbered_nodes c.args.nodes.now c.args.numbering.now.ids.items (slice_index c.args.numbering.now.numbers.items)) (c.args.number + 1) (length c.args.numbering.now.ids.items)) (sym c.mark_ways.ensures)
    (rw ties (marked_on (numbered_nodes c.args.nodes.now c.args.numbering.now.ids.items (slice_index c.args.numbering.now.numbers.items)) c.args.number (length c.args.numbering.now.ids.items) c.args.marks.now.items c.requires.before
    (slice_index c.args.numbering.now.numbers.items) c.get-node.result.now is within))
