-- What is told of the parts of the program while they are made.
use Rattle.std.specs.Prelude.{◌≡◌, ℕ}
use Rattle.snap_core.specs.declared.policy.Pol.{Pol}
use Rattle.snap_core.specs.Fits.{PolFits}
use Rattle.snap_core.specs.Programs.{HasArity}
use Rattle.snap_dep.specs.Dependencies.{Depends, Reads}
use Rattle.snap_names.specs.Core.{core_policy, seq}
use Rattle.snap_demo.specs.Serial.{IsSerial}
use Rattle.snap_demo.specs.Stated.{counting, egress}

-- of three components and two arrays, each index of one atom, no parallel parts
pub record IsMild (p : Pol) : Type 0 where
  pub fits : PolFits 3 2 p
  pub arity : HasArity (λ v. 1) p
  pub serial : IsSerial p

-- the choices for so many last ports depend on no array
pub record IsEgress (n left : ℕ) (p : Pol) : Type 0 where
  pub core : core_policy p ≡ egress n left
  pub mild : IsMild p
  pub depends : (s t : ℕ) → Depends p s t → ⊥

-- only `seen` is read
pub record IsCounting (p : Pol) : Type 0 where
  pub core : core_policy p ≡ counting
  pub mild : IsMild p
  pub reads : (v : ℕ) → Reads p v → v ≡ 0
  pub depends : (s t : ℕ) → Depends p s t → s ≡ 0

-- so dependencies are from `seen` alone
pub record IsBody (n : ℕ) (p : Pol) : Type 0 where
  pub core : core_policy p ≡ seq counting (egress n n)
  pub mild : IsMild p
  pub depends : (s t : ℕ) → Depends p s t → s ≡ 0
