use Rattle.std.proofs.Common.{inl, refl}
use Rattle.snap_dep.proofs.Chains.{tied_on, tied_back}
use Rattle.snap_dep.proofs.laws.tied_is_equivalence.Goals as goal

pub returns : goal.returns
returns c = λ p. record { itself = λ s. inl refl; back = tied_back p; on = tied_on p }
