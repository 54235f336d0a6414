use Rattle.std.proofs.Common.{◌≡◌, sym, ap, subst, ◌∙◌}
use Rattle.std.proofs.lemmas.Result.{IfOk-weaker}
use Rattle.snap_net.specs.Shown.{NetView}
use Rattle.snap_order.specs.declared.lent.Lent.{Lent}
use Rattle.snap_order.specs.declared.round.Rounded.{Rounded}
use Rattle.snap_order.specs.declared.weave.Web.{Web}
use Rattle.snap_order.specs.Lending.{IsHeldAgain, IsWorkedAt}
use Rattle.snap_order.specs.Rounding.{IsRoundDone}
use Rattle.snap_order.specs.Shown.{OrderedNetView}
use Rattle.snap_order.proofs.lent.reassemble.Goals as goal

abbrev Rejoined : Lent → Web → Rounded → Type 0
Rejoined lent web r = IsHeldAgain lent web r.net × (r.done.items ≡ web.done.items)

pub returns-in-Ok-clause-done : goal.returns-in-Ok-clause-done
returns-in-Ok-clause-done c =
    IfOk-weaker c.rejoin.result (Rejoined c.gather.new.lent c.in-Ok.web)
    (λ (r : Rounded). (v : OrderedNetView) → IsWorkedAt c.args.workers c.args.switches.now c.args.lent v → IsRoundDone v r.net r.done.items)
    (λ r h v is. subst (IsRoundDone v r.net) (sym h.1) (c.in-Ok.ensures.done v r.net is h.0)) c.rejoin.ensures

pub returns-in-Ok-clause-tables : goal.returns-in-Ok-clause-tables
returns-in-Ok-clause-tables c =
    IfOk-weaker c.rejoin.result (Rejoined c.gather.new.lent c.in-Ok.web) (λ (r : Rounded). r.net.net.tables ≡ c.args.lent.tables)
    (λ r h. ap (λ (n : NetView). n.tables) h.0.0 ∙ c.gather.ensures.tables) c.rejoin.ensures

pub returns-in-Ok-clause-injected : goal.returns-in-Ok-clause-injected
returns-in-Ok-clause-injected c =
    IfOk-weaker c.rejoin.result (Rejoined c.gather.new.lent c.in-Ok.web) (λ (r : Rounded). r.net.net.injected ≡ c.args.lent.injected)
    (λ r h. ap (λ (n : NetView). n.injected) h.0.0 ∙ c.gather.ensures.injected) c.rejoin.ensures
