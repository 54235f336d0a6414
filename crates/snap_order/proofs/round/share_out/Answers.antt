use Rattle.std.proofs.Common.{◌≡◌, ◌<◌, sym, ◌∙◌, arith, rules}
use Rattle.std.proofs.lemmas.Result.{IfOk-weaker}
use Rattle.snap_order.specs.declared.round.Rounded.{Rounded}
use Rattle.snap_order.specs.Lending.{IsWorkedAt}
use Rattle.snap_order.specs.Rounding.{IsRoundDone}
use Rattle.snap_order.specs.Shown.{OrderedNetView}
use Rattle.snap_order.proofs.Sharing.{lent_ready, works_on}
use Rattle.snap_order.proofs.round.share_out.Goals as goal

pub work_out-requires : goal.work_out-requires
work_out-requires g c =
    let low = c.requires.workers.0 in
    let some : 0 < c.args.workers = omega (arith, low) in
    let ready = lent_ready some c.in_ok-lent-in-Ok.ensures in
    search (rules, ready)

pub reassemble-requires-clause-worked : goal.reassemble-requires-clause-worked
reassemble-requires-clause-worked g c =
    let w = c.in_ok-worked-in-Ok.ensures in
    (c.args.net, (works_on c.args.workers c.args.net c.in_ok-lent-in-Ok.lent c.in_ok-worked-in-Ok.worked c.in_ok-lent-in-Ok.ensures w.tables w.injected w.counts w.stores w.worked w.enough, sym c.in-Ok.ensures ∙ sym c.deref.ensures.value))

pub returns-in_ok-worked-in-Ok-clause-done : goal.returns-in_ok-worked-in-Ok-clause-done
returns-in_ok-worked-in-Ok-clause-done g c =
    let w = c.in_ok-worked-in-Ok.ensures in
    let v = c.args.net in
    let d = c.in_ok-worked-in-Ok.worked in
    let is = works_on c.args.workers v c.in_ok-lent-in-Ok.lent d c.in_ok-lent-in-Ok.ensures w.tables w.injected w.counts w.stores w.worked w.enough in
    let switches = sym c.in-Ok.ensures ∙ sym c.deref.ensures.value in
    IfOk-weaker c.reassemble.result
    (λ (r : Rounded). (v : OrderedNetView) → IsWorkedAt c.args.workers c.deref.result.now d v → IsRoundDone v r.net r.done.items)
    (λ (r : Rounded). IsRoundDone v r.net r.done.items) (λ r h. h v (is, switches)) c.reassemble.ensures.done

pub returns-in_ok-worked-in-Ok-clause-tables : goal.returns-in_ok-worked-in-Ok-clause-tables
returns-in_ok-worked-in-Ok-clause-tables g c =
    let t = c.in_ok-worked-in-Ok.ensures.tables ∙ sym c.in_ok-lent-in-Ok.ensures.tables in
    IfOk-weaker c.reassemble.result (λ (r : Rounded). r.net.net.tables ≡ c.in_ok-worked-in-Ok.worked.tables) (λ (r : Rounded). r.net.net.tables ≡ c.args.net.net.tables) (λ r h. h ∙ t) c.reassemble.ensures.tables

pub returns-in_ok-worked-in-Ok-clause-injected : goal.returns-in_ok-worked-in-Ok-clause-injected
returns-in_ok-worked-in-Ok-clause-injected g c =
    let n = c.in_ok-worked-in-Ok.ensures.injected ∙ sym c.in_ok-lent-in-Ok.ensures.injected in
    IfOk-weaker c.reassemble.result (λ (r : Rounded). r.net.net.injected ≡ c.in_ok-worked-in-Ok.worked.injected) (λ (r : Rounded). r.net.net.injected ≡ c.args.net.net.injected) (λ r h. h ∙ n) c.reassemble.ensures.injected
