-- A list of things that there are.
use Rattle.std.proofs.Common.{◌≡◌, ℕ, zero, suc, ◌<◌, List, [], ◌∷◌, length, Some, refl, ap, subst, arith}
use Rattle.std.specs.Prelude.{slice_get}
use Rattle.std.proofs.lemmas.Option.{none-some, same_Some}

-- where there is one for each number below n, there is a list of n of them
pub choose : {X : Type 0} (P : ℕ → X → Type 0) (n : ℕ) → ((i : ℕ) → i < n → (x : X) × P i x) → (xs : List X) × (length xs ≡ n) × ((i : ℕ) (x : X) → slice_get xs i ≡ Some x → P i x)
choose P zero each = ([], refl, λ i x e. absurd (none-some x e))
choose {X} P (suc n) each =
    let first = each 0 (omega arith) in
    let rest = choose (λ i. P (suc i)) n (λ i low. each (suc i) (omega arith)) in
    (first.0 ∷ rest.0, ap suc rest.1, at first.0 first.1 rest.0 rest.2)
  where
    at : (x : X) → P 0 x → (xs : List X) → ((i : ℕ) (y : X) → slice_get xs i ≡ Some y → P (suc i) y) → (i : ℕ) (y : X) → slice_get (x ∷ xs) i ≡ Some y → P i y
    at x here xs more zero y e = subst (P 0) (same_Some x y e) here
    at x here xs more (suc i) y e = more i y e
