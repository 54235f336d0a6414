-- The first part of a policy is smaller.
use Rattle.snap_core.specs.declared.policy.Pol.{size-Pol}
use Rattle.snap_build.proofs.policies.+before_run.Given as goal

abbrev pub decreases-before_run : goal.decreases-before_run
decreases-before_run l = size-Pol l.pol.now
