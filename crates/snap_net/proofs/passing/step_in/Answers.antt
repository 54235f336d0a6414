use Rattle.std.proofs.lemmas.Result.{IfOk-weaker}
use Rattle.snap_net.specs.Passing.{IsPlain}
use Rattle.snap_net.proofs.Carried.{steps_are_plain}
use Rattle.snap_net.proofs.passing.step_in.Goals as goal

pub returns-clause-plain : goal.returns-clause-plain
returns-clause-plain c = IfOk-weaker c.step.result _ IsPlain (λ f made. steps_are_plain f made) c.step.ensures.steps
