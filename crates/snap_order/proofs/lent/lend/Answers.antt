use Rattle.std.proofs.Common.{◌≡◌, ℕ, get_or, length, sym, ap, subst, arith}
use Rattle.snap_net.specs.Shown.{NetView}
use Rattle.snap_order.specs.Dealing.{AreDealt, AreExchanged, ArePlaces}
use Rattle.snap_order.proofs.lent.lend.Goals as goal

pub exchange-requires-clause-jobs : goal.exchange-requires-clause-jobs
exchange-requires-clause-jobs c = c.in-Ok.ensures.count

pub exchange-requires-clause-places : goal.exchange-requires-clause-places
exchange-requires-clause-places c =
    let end = c.len.ensures in
    let many : c.len.result ≡ length c.in_ok-taken.taken.parts.stores.items = omega (arith, end) in
    λ j d low. subst (λ (n : ℕ). ArePlaces c.args.workers j n (length (get_or c.in-Ok.jobs.items j d).stores.items)) many (c.in-Ok.ensures.each j d low).places

pub returns-in-Ok : goal.returns-in-Ok
returns-in-Ok c =
    let p = c.in_ok-taken.taken in
    let e = c.in_ok-taken.ensures.net in
    let k = c.in_ok-taken.ensures.counts in
    let jobs = c.in-Ok.jobs.items in
    let w = c.args.workers in
    let end = c.len.ensures in
    let many : c.len.result ≡ length p.parts.stores.items = omega (arith, end) in
    record {
      held = c.flying-known.ensures.is_held;
      ordered = c.flying-known.ensures.is_ordered;
      tables = ap (λ (h : NetView). h.tables) (sym e);
      injected = ap (λ (h : NetView). h.injected) (sym e);
      counts = sym k;
      jobs = jobs;
      dealt = subst (λ (h : NetView). AreDealt w (length h.stores) h.flying jobs) e (subst (λ (n : ℕ). AreDealt w n p.parts.flying.items jobs) many c.in-Ok.ensures);
      lent = subst (λ (h : NetView). AreExchanged w (length h.stores) h.stores jobs c.exchange.new.stores.items c.exchange.new.jobs.items) e c.exchange.ensures.exchanged;
    }
