-- Terms of policies: which are numbers, and terms as lists of numbers.
use Rattle.std.specs.Prelude.{ℕ, List, [], ◌∷◌}
use Rattle.snap_core.specs.declared.policy.Term.{Term}
use Rattle.snap_core.specs.declared.policy.Term.TheVariants.{Num, Plus}

abbrev pub IsNumber : Term → Type 0
IsNumber (Num n) = Unit {0}
IsNumber (Plus c p) = ⊥

abbrev pub term_code : Term → List ℕ
term_code (Num n) = 0 ∷ n ∷ []
term_code (Plus c p) = 1 ∷ c ∷ p ∷ []
