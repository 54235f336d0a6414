use Rattle.std.proofs.Common.{subst}
use Rattle.snap_core.proofs.Kept.{Keeps, IfDefined, keeps}
use Rattle.snap_core.proofs.laws.keeps_unwritten.Goals as goal

pub returns : goal.returns
returns c = λ p m k o e q h. subst (IfDefined (Keeps m q)) e (keeps p m k q) h
