use Rattle.snap_core.specs.Meaning.{eval}
use Rattle.snap_dep.proofs.Locals.{settled, agreed}
use Rattle.snap_dep.proofs.laws.evaluation_is_noninterfering.Goals as goal

pub returns : goal.returns
returns c = λ p S closed m n k agree a b e f. agreed S a b (eval p m k) (eval p n k) e f (settled S p closed m n k agree)
