use Rattle.std.proofs.Common.{rules, ◌≡◌, length, slice_index, subst}
use Rattle.snap_faithful.specs.Generated.{numbered_nodes}
use Rattle.snap_make.specs.Fronts.{AreMarked}
use Rattle.snap_make.proofs.fronts.fronts.Goals as goal

pub loop-number-init : goal.loop-number-init
loop-number-init c =
    let nodes = numbered_nodes c.args.nodes.now c.args.numbering.now.ids.items (slice_index c.args.numbering.now.numbers.items) in
    let many : c.len.result ≡ length c.args.numbering.now.ids.items = search rules in
    subst (λ many. AreMarked nodes 0 many c.in_ok-marks.marks.items) many (c.in_ok-marks.ensures nodes)
