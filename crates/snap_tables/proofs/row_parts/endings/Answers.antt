use Rattle.std.proofs.Common.{◌++◌, ◌∷◌, [], sym, ◌∙◌, arith}
use Rattle.std.proofs.lemmas.List.FromFn.{map-range_with_len_more}
use Rattle.snap_tables.specs.RowParts.{ending_of}
use Rattle.snap_tables.proofs.row_parts.endings.Goals as goal

pub loop-place-preserved : goal.loop-place-preserved
loop-place-preserved c =
    let text = c.as_slice.ensures.value ∙ c.in_ok-ending.ensures in
    c.in_ok-push.ensures ∙ (λ i. c.loop-place.invariant i ++ text i ∷ [])
    ∙ sym (map-range_with_len_more (ending_of c.args.numbers.now c.args.bodies.now) 0 c.loop-place.place c.loop-place.place (omega arith))
