-- Facts without those at places of numbers that the others leave alone.
use Rattle.std.specs.Prelude.{◌≡◌, ◌≢◌, ◌⊎◌, ◌≤◌, true, List, [], ◌∷◌, length}
use Rattle.std.specs.List.{All}
use Rattle.snap_core.specs.declared.policy.Test.{Test}
use Rattle.snap_core.specs.declared.policy.Test.TheVariants.{Value, Equal, State}
use Rattle.snap_context.specs.declared.fact.Fact.{Fact}
use Rattle.snap_context.specs.Classes.{is_state, var_of, index_of}
use Rattle.snap_context.specs.Known.{IsFixed, is_number}

abbrev pub Among : Fact → List Fact → Type 0
Among f [] = ⊥
Among f (g ∷ gs) = (f ≡ g) ⊎ Among f gs

-- a place spelled by numbers, for a number
abbrev pub IsPlain : Test → Type 0
IsPlain (Value c n) = ⊥
IsPlain (Equal l r p) = ⊥
IsPlain (State v ix t) = All IsFixed ix × (is_number t ≡ true)

-- if g is on the array of f, its index is of numbers, and another one
abbrev pub IsBeside : Fact → Fact → Type 0
IsBeside f g = is_state g.test ≡ true → var_of g.test ≡ var_of f.test → All IsFixed (index_of g.test) × (index_of g.test ≢ index_of f.test)

-- the facts are those that stay and those that go
pub record AreParted (facts stay gone : List Fact) : Type 0 where
  pub each : (f : Fact) → Among f facts → Among f stay ⊎ Among f gone
  pub no_other : (f : Fact) → Among f stay ⊎ Among f gone → Among f facts
  pub few : length stay ≤ length facts

-- those that go are at places of numbers, for numbers, and those that stay are at none of these places
pub record IsLean (facts stay gone : List Fact) : Type 0 where
  pub parted : AreParted facts stay gone
  pub plain : All (λ f. IsPlain f.test) gone
  pub beside : All (λ f. All (IsBeside f) stay) gone
