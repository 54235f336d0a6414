use Rattle.std.proofs.Common.{rules, ◌++◌, sym, subst}
use Rattle.std.specs.List.{AllZip}
use Rattle.snap_order.specs.Jobs.{HasWorked}
use Rattle.snap_order.proofs.Teams.{idle_zip, ready_back, ready_front, zip_append, zip_one}
use Rattle.snap_order.proofs.team.+fn-work_all-join_mut+arg2+fn-work_all-join_mut+arg3+work_all.Goals as goal

pub returns-then-are_idle : goal.returns-then-are_idle
returns-then-are_idle g t c = idle_zip c.args.tables.now c.args.counts.now c.args.jobs.now c.requires.each (c.are_idle.ensures.idle c.if-are_idle.true)

pub returns-then-jobs-eq1 : goal.returns-then-jobs-eq1
returns-then-jobs-eq1 g t c = zip_one (HasWorked c.args.tables.now c.args.counts.now) c.args.jobs.now c.index-jobs-0.result c.work.new.job c.if-jobs-eq1.true c.work.ensures

pub returns-then-are_idle-2 : goal.returns-then-are_idle-2
returns-then-are_idle-2 g t c =
    let front = c.split_at_mut-front.result.0.now in
    let back = c.split_at_mut-front.result.1.now in
    let are = (ready_front c.args.tables.now c.args.counts.now front back c.args.jobs.now c.split_at_mut-front.ensures.value c.requires).each in
    subst (λ l. AllZip (HasWorked c.args.tables.now c.args.counts.now) l (front ++ c.work_all.new.jobs)) (sym c.split_at_mut-front.ensures.value)
    (zip_append (HasWorked c.args.tables.now c.args.counts.now) front front back c.work_all.new.jobs (idle_zip c.args.tables.now c.args.counts.now front are (c.are_idle-2.ensures.idle c.if-are_idle-2.true)) c.work_all.ensures)

pub returns-then-are_idle-3 : goal.returns-then-are_idle-3
returns-then-are_idle-3 g t c =
    let front = c.split_at_mut-front.result.0.now in
    let back = c.split_at_mut-front.result.1.now in
    let are = (ready_back c.args.tables.now c.args.counts.now front back c.args.jobs.now c.split_at_mut-front.ensures.value c.requires).each in
    subst (λ l. AllZip (HasWorked c.args.tables.now c.args.counts.now) l (c.work_all-then-are_idle-3.new.jobs ++ back)) (sym c.split_at_mut-front.ensures.value)
    (zip_append (HasWorked c.args.tables.now c.args.counts.now) front c.work_all-then-are_idle-3.new.jobs back back c.work_all-then-are_idle-3.ensures (idle_zip c.args.tables.now c.args.counts.now back are (c.are_idle-3.ensures.idle c.if-are_idle-3.true)))

pub returns : goal.returns
returns g t c =
    let r = HasWorked c.args.tables.now c.args.counts.now in
    let front = c.split_at_mut-front.result.0.now in
    let back = c.split_at_mut-front.result.1.now in
    let one : AllZip r front c.front-2-1.given.0 = search rules in
    let two : AllZip r back c.back-2-1.given.0 = search rules in
    subst (λ l. AllZip r l (c.front-2-1.given.0 ++ c.back-2-1.given.0)) (sym c.split_at_mut-front.ensures.value) (zip_append r front c.front-2-1.given.0 back c.back-2-1.given.0 one two)

pub work_all-requires : goal.work_all-requires
work_all-requires g t c =
    let some = c.are_idle.ensures.some c.if-are_idle.false in
    let ready = ready_back c.args.tables.now c.args.counts.now c.split_at_mut-front.result.0.now c.split_at_mut-front.result.1.now c.args.jobs.now c.split_at_mut-front.ensures.value c.requires in
    search (rules, ready, some)

pub work_all-requires-then-are_idle-3 : goal.work_all-requires-then-are_idle-3
work_all-requires-then-are_idle-3 g t c =
    let some = c.are_idle.ensures.some c.if-are_idle.false in
    let ready = ready_front c.args.tables.now c.args.counts.now c.split_at_mut-front.result.0.now c.split_at_mut-front.result.1.now c.args.jobs.now c.split_at_mut-front.ensures.value c.requires in
    search (rules, ready, some)
