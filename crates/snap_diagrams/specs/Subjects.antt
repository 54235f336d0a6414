-- Tests of one subject, which do not pass together.
use Rattle.std.specs.Prelude.{◌≡◌, ◌≢◌, ℕ, true, false, List}
use Rattle.snap_core.specs.declared.policy.Term.{Term}
use Rattle.snap_core.specs.declared.policy.Test.{Test}
use Rattle.snap_core.specs.Arrays.{Arrays}
use Rattle.snap_core.specs.Tests.{passes, term_value}

-- no store and packet pass both tests
abbrev pub Excludes : Test → Test → Type 0
Excludes t u = (m : Arrays) (k : List ℕ) → passes t m k ≡ true → passes u m k ≡ false

-- the terms differ on every packet
abbrev pub AreApart : Term → Term → Type 0
AreApart a b = (k : List ℕ) → term_value a k ≢ term_value b k
