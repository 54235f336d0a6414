use Rattle.std.proofs.Common.{◌/◌}
use Rattle.std.proofs.Math.ListN.{set}
use Rattle.std.proofs.lemmas.Result.{IfOk-weaker}
use Rattle.snap_core.specs.Cells.{arrays_of}
use Rattle.snap_order.specs.declared.hand.Stepped.{Stepped}
use Rattle.snap_order.specs.Hands.{StepsBy, StepsHere, part_of}
use Rattle.snap_order.proofs.Handling.{steps_in}
use Rattle.snap_order.proofs.job.step_in.Goals as goal

pub returns-clause-steps : goal.returns-clause-steps
returns-clause-steps c =
    let t = c.args.tables.now in
    let n = c.args.workers in
    let x = c.args.copy in
    let old = c.args.stores.now.items in
    let counts = c.args.counts.now.items in
    let k = c.index_mut.result.now in
    let k' = c.step_here.new.store in
    let counts' = c.step_here.new.counts.items in
    IfOk-weaker c.step_here.result (λ (s : Stepped). StepsHere t x (arrays_of k) counts (arrays_of k') counts' s.left.items s.moved)
    (StepsBy t n x (part_of n old counts) (part_of n (set old (x.at / n) k') counts'))
    (λ s steps. steps_in t n x old k k' counts counts' s.left.items s.moved c.requires.store c.index_mut.ensures.value steps) c.step_here.ensures
