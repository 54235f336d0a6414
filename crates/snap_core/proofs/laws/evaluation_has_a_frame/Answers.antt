use Rattle.std.proofs.Common.{subst}
use Rattle.snap_core.specs.Meaning.{eval}
use Rattle.snap_core.proofs.Framed.{Follows, follows}
use Rattle.snap_core.proofs.laws.evaluation_has_a_frame.Goals as goal

pub returns : goal.returns
returns c = λ p m n k o e. subst (λ x. Follows m n x (eval p n k)) e (follows p m n k)
