use Rattle.std.proofs.Common.{◌≡◌, [], subst, arith}
use Rattle.std.specs.List.{All}
use Rattle.std.proofs.lemmas.Grind.{common_steps}
use Rattle.std.proofs.lemmas.List.{take_all}
use Rattle.snap_order.specs.declared.job.Job.{Job}
use Rattle.snap_order.proofs.Teams.{all_more}
use Rattle.snap_order.proofs.team.are_idle.Goals as goal

pub loop-job-preserved : goal.loop-job-preserved
loop-job-preserved c =
    let idle : c.job-item.result.copies.items ≡ [] = grind (arith, common_steps, c.is_idle.ensures) in
    all_more (λ (j : Job). j.copies.items ≡ []) c.args.jobs.now c.loop-job.job-index c.job-item.result c.loop-job-test.true c.job-item.is c.loop-job.invariant idle

pub returns-clause-idle : goal.returns-clause-idle
returns-clause-idle c = λ yes. subst (All (λ (j : Job). j.copies.items ≡ [])) (take_all c.loop-job.job-index c.args.jobs.now c.loop-job-test.false) c.loop-job.invariant
