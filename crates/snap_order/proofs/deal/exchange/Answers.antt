use Rattle.std.proofs.Common.{◌<◌, ◌%◌, length, refl, arith}
use Rattle.std.proofs.Math.Nat.{mod-lt}
use Rattle.snap_order.specs.declared.job.Job.{Job}
use Rattle.snap_order.proofs.Dealing.{exchanged_more, some_of}
use Rattle.snap_order.proofs.deal.exchange.Goals as goal

pub loop-at-preserved : goal.loop-at-preserved
loop-at-preserved c =
    let l = c.loop-at in
    let i = l.invariant in
    let s = c.swap_at.ensures in
    let rest = l.at % c.args.workers in
    let low = mod-lt l.at c.requires.workers in
    let test = c.loop-at-test.true in
    let end = c.len-at-end.ensures in
    let long = i.long in
    let count = i.count in
    let jobs = c.requires.jobs in
    let some = c.requires.workers in
    let within : l.at < length l.stores.items = omega (arith, test, end, long) in
    let begun : l.at < length c.args.stores.now.items = omega (arith, within, long) in
    exchanged_more c.args.workers l.at c.args.stores.now.items l.stores.items c.swap_at.new.stores.items c.args.jobs.now.items l.jobs.items c.swap_at.new.jobs.items i within
    (λ (d : Job). let a = (i.same rest d (omega (arith, low, jobs))).long in let b = (c.requires.places rest d low l.at refl).0 begun in omega (arith, a, b)) s.stores s.here s.same s.others s.long
    (some_of l.jobs.items (omega (arith, count, jobs, some)))
