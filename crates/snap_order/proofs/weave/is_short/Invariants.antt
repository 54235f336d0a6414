use Rattle.std.proofs.Common.{◌≡◌, ℕ, ◌<◌, false, get_or}
use Rattle.snap_order.specs.declared.job.Job.{Job}
use Rattle.snap_order.proofs.weave.is_short.Given as goal

abbrev pub invariant-loop-job : goal.invariant-loop-job
invariant-loop-job l = (j : ℕ) (d : Job) → j < l.job-index → (get_or l.jobs j d).is_short ≡ false
