use Rattle.std.proofs.Common.{◌≡◌, ℕ, ◌<◌, [], get_or, length}
use Rattle.snap_order.specs.declared.job.Job.{Job}
use Rattle.snap_order.specs.Dealing.{IsDealt}
use Rattle.snap_order.proofs.deal.open_jobs.Given as goal

abbrev pub invariant-loop-rest : goal.invariant-loop-rest
invariant-loop-rest l = record {
  count : length l.jobs.items ≡ l.rest;
  each : (j : ℕ) (d : Job) → j < l.rest → IsDealt l.workers j l.switches [] (get_or l.jobs.items j d);
}
