use Rattle.std.proofs.Common.{◌∷◌, [], ◌++◌, sym, ◌∙◌, arith}
use Rattle.std.proofs.lemmas.List.FromFn.{map-range_with_len_more}
use Rattle.snap_demo.specs.Row.{switch_name}
use Rattle.snap_demo.proofs.network.switches.Goals as goal

pub loop-i-preserved : goal.loop-i-preserved
loop-i-preserved c = c.in_ok-push.ensures.items ∙ (λ j. c.loop-i.invariant j ++ c.in_ok-switch_name.ensures j ∷ []) ∙ sym (map-range_with_len_more switch_name 0 c.loop-i.i c.loop-i.i (omega arith))
