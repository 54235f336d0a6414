use Rattle.std.proofs.Common.{◌∷◌, [], ◌++◌, sym, ◌∙◌, arith}
use Rattle.std.proofs.lemmas.List.FromFn.{map-range_with_len_more}
use Rattle.snap_demo.specs.Row.{link_of}
use Rattle.snap_demo.proofs.network.links.Goals as goal

pub loop-i-preserved : goal.loop-i-preserved
loop-i-preserved c = c.in_ok-push.ensures.items ∙ (λ j. c.loop-i.invariant j ++ link_of c.loop-i.i ∷ []) ∙ sym (map-range_with_len_more link_of 0 c.loop-i.i c.loop-i.i (omega arith))
