use Rattle.std.proofs.Common.{◌++◌, ◌∷◌, [], sym, ◌∙◌, arith}
use Rattle.std.proofs.lemmas.List.FromFn.{map-range_with_len_more}
use Rattle.snap_tables.specs.RowParts.{front_text}
use Rattle.snap_tables.proofs.row_parts.fronts.Goals as goal

pub loop-at-preserved : goal.loop-at-preserved
loop-at-preserved c =
    let text = c.as_slice.ensures.value ∙ c.in_ok-front.ensures in
    c.in_ok-push.ensures ∙ (λ i. c.loop-at.invariant i ++ text i ∷ [])
    ∙ sym (map-range_with_len_more front_text 0 c.loop-at.at c.loop-at.at (omega arith))
