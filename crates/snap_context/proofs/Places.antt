-- Places, and the place of a test on a packet.
use Rattle.std.proofs.Common.{◌≡◌, ℕ, true, List, refl, ap}
use Rattle.std.specs.Prelude.{◌==◌}
use Rattle.snap_core.specs.declared.place.Place.{Place}
use Rattle.snap_core.specs.declared.policy.Test.{Test}
use Rattle.snap_core.specs.declared.policy.Test.TheVariants.{Value, Equal, State}
use Rattle.snap_core.specs.Arrays.{Arrays, place_at}
use Rattle.snap_core.specs.Tests.{passes, term_value}
use Rattle.snap_context.specs.Classes.{is_state, var_of, index_of, left_of}

-- the place of a state test
abbrev pub place_of : Test → List ℕ → Place
place_of t k = place_at (var_of t) (index_of t) k

pub passes-state : (m : Arrays) (k : List ℕ) (t : Test) → is_state t ≡ true → passes t m k ≡ (m (place_of t k) == term_value (left_of t) k)
passes-state m k (Value c n) h = absurd (cc)
passes-state m k (Equal l r q) h = absurd (cc)
passes-state m k (State v ix u) h = refl

-- a test asks nothing of other places
pub passes-like : (m n : Arrays) (k : List ℕ) (t : Test) → n (place_of t k) ≡ m (place_of t k) → passes t n k ≡ passes t m k
passes-like m n k (Value c x) e = refl
passes-like m n k (Equal l r q) e = refl
passes-like m n k (State v ix u) e = ap (λ x. x == term_value u k) e
