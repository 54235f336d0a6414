-- What is noted at the number's place.
use Rattle.std.proofs.Common.{◌∙◌, Some, ap, sym}
use Rattle.std.proofs.lemmas.Option.{slice_get-get_or}
use Rattle.snap_diagrams.proofs.tested.mark_at.Goals as goal

pub returns : goal.returns
returns c =
    let is = slice_get-get_or c.args.marks.now c.in_ok-place.field-0 c.in_ok-get.field-0.now c.in_ok-get.ensures.lookup.3.0 ∙ ap Some (sym c.in_ok-get.ensures.lookup.1) in
    (c.requires c.in_ok-place.field-0 c.args.d c.in_ok-get.field-0.now c.in_ok-place.ensures is).1
