use Rattle.std.proofs.Common.{sym, ap, ◌∙◌, slice_set}
use Rattle.snap_order.specs.declared.job.Job.{Job}
use Rattle.snap_order.specs.Weaving.{queues_of}
use Rattle.snap_order.proofs.Webs.{first_taken, queue_at, queue_away, queue_here}
use Rattle.snap_order.proofs.weave.next_of.Goals as goal

pub returns-clause-first : goal.returns-clause-first
returns-clause-first c =
    let jobs = c.args.jobs.now.items in
    let i = c.args.rest in
    let x = c.index_mut.result.now in
    let y = record x { done = c.pop_front.new.self } in
    first_taken c.pop_front.result x.done.items c.pop_front.new.self.items (queues_of jobs i) (queues_of (slice_set jobs i y) i) c.pop_front.ensures.items
    (queue_at jobs i x c.requires ∙ ap (λ (z : Job). z.done.items) (sym c.index_mut.ensures.value)) (queue_here jobs i y c.requires)

pub returns-clause-others : goal.returns-clause-others
returns-clause-others c = λ j ne. queue_away c.args.jobs.now.items c.args.rest j (record c.index_mut.result.now { done = c.pop_front.new.self }) ne
