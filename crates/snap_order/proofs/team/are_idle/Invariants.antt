use Rattle.std.proofs.Common.{◌≡◌, [], take, All}
use Rattle.snap_order.specs.declared.job.Job.{Job}
use Rattle.snap_order.proofs.team.are_idle.Given as goal

abbrev pub invariant-loop-job : goal.invariant-loop-job
invariant-loop-job l = All (λ (j : Job). j.copies.items ≡ []) (take l.job-index l.jobs)
