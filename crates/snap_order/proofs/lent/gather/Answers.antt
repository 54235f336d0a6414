use Rattle.std.proofs.Common.{List, get_or, subst, arith}
use Rattle.snap_order.specs.declared.job.Job.{Job}
use Rattle.snap_order.specs.Weaving.{HasCounts}
use Rattle.snap_order.proofs.Dealing.{some_of}
use Rattle.snap_order.proofs.Sharing.{held_again, ordered_again, settled, worked_many, worked_room}
use Rattle.snap_order.proofs.lent.gather.Goals as goal

pub exchange-requires-clause-jobs : goal.exchange-requires-clause-jobs
exchange-requires-clause-jobs c = worked_many c.requires.workers c.requires.worked.1.0

pub exchange-requires-clause-places : goal.exchange-requires-clause-places
exchange-requires-clause-places c = worked_room c.requires.workers c.requires.worked.1.0

pub returns-clause-held : goal.returns-clause-held
returns-clause-held c =
    let w = c.args.workers in
    let lent = c.args.lent.now in
    let some = c.requires.workers in
    let is = c.requires.worked.1.0 in
    let many = worked_many some is in
    let d = some_of lent.jobs.items (omega (arith, many, some)) in
    let counts = c.count_all.new.counts.items in
    held_again some is d c.exchange.new.stores.items c.exchange.new.jobs.items counts c.in_ok-web.web c.exchange.ensures.exchanged
    (λ r low. subst (λ (l : List Job). HasCounts lent.tables w l r (get_or lent.counts.items r 0) (get_or counts r 0)) c.deref.ensures.value (c.count_all.ensures.counts r low)) c.count_all.ensures.long
    (c.in_ok-web.ensures c.requires.worked.0.net.flying c.requires.worked.1.1)

pub returns-clause-ordered : goal.returns-clause-ordered
returns-clause-ordered c =
    let w = c.args.workers in
    let lent = c.args.lent.now in
    let some = c.requires.workers in
    let is = c.requires.worked.1.0 in
    let many = worked_many some is in
    let d = some_of lent.jobs.items (omega (arith, many, some)) in
    let counts = c.count_all.new.counts.items in
    ordered_again some is d c.exchange.new.stores.items c.exchange.new.jobs.items counts c.in_ok-web.web c.exchange.ensures.exchanged
    (λ r low. subst (λ (l : List Job). HasCounts lent.tables w l r (get_or lent.counts.items r 0) (get_or counts r 0)) c.deref.ensures.value (c.count_all.ensures.counts r low)) c.count_all.ensures.long
    (c.in_ok-web.ensures c.requires.worked.0.net.flying c.requires.worked.1.1)

pub returns-clause-done : goal.returns-clause-done
returns-clause-done c = λ v new is net.
    let w = c.args.workers in
    let lent = c.args.lent.now in
    let some = c.requires.workers in
    let many = worked_many some is.0 in
    let d = some_of lent.jobs.items (omega (arith, many, some)) in
    let counts = c.count_all.new.counts.items in
    settled some is.0 d c.exchange.new.stores.items c.exchange.new.jobs.items counts c.in_ok-web.web c.exchange.ensures.exchanged
    (λ r low. subst (λ (l : List Job). HasCounts lent.tables w l r (get_or lent.counts.items r 0) (get_or counts r 0)) c.deref.ensures.value (c.count_all.ensures.counts r low)) c.count_all.ensures.long
    (c.in_ok-web.ensures v.net.flying is.1) new net.0 net.1
