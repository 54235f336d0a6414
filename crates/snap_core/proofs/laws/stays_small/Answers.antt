use Rattle.std.proofs.Common.{refl, subst, length}
use Rattle.snap_core.proofs.Kept.{IfDefined}
use Rattle.snap_core.proofs.Small.{Fine, stays_fine}
use Rattle.snap_core.proofs.laws.stays_small.Goals as goal

pub returns : goal.returns
returns c = λ p m k o s h a e. subst (IfDefined (Fine (length k))) e (stays_fine p m k (length k) s h (refl, a))
