use Rattle.std.proofs.Common.{List, ℕ, [], ◌∷◌, ◌++◌, sym, ap, ◌∙◌}
use Rattle.std.specs.Prelude.{slice_get}
use Rattle.snap_net.specs.Shown.{NetView}
use Rattle.snap_order.proofs.Sharing.{one_more_switch}
use Rattle.snap_order.proofs.round.switches_of.Goals as goal

pub loop-k-preserved : goal.loop-k-preserved
loop-k-preserved c =
    let cs = c.args.net.now.net.flying in
    let k = c.loop-k.k in
    let x = c.copy.result.now in
    c.in_ok-push.ensures.items ∙ ap (λ (l : List ℕ). l ++ x.at ∷ []) c.loop-k.invariant
    ∙ sym (one_more_switch cs k x (sym (ap (λ (v : NetView). slice_get v.flying k) c.network.ensures) ∙ c.copy.ensures))
