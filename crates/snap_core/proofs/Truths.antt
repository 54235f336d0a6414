-- What truths say of each other.
use Rattle.std.proofs.Common.{◌≡◌, Bool, true, false, ◌||◌, refl, sym}
use lib.Dec.{T}

pub both_or_neither : (a b : Bool) → (a ≡ true → b ≡ true) → (b ≡ true → a ≡ true) → a ≡ b
both_or_neither true b f g = sym (f refl)
both_or_neither false true f g = g refl
both_or_neither false false f g = refl

pub true-from_T : (b : Bool) → T b → b ≡ true
true-from_T true t = refl
true-from_T false t = absurd t

pub or_rest : (a b : Bool) → (a || b) ≡ true → a ≡ false → b ≡ true
or_rest true b is not = cc
or_rest false b is not = is

pub or-or_swap : (a b c : Bool) → ((a || b) || c) ≡ (b || (a || c))
or-or_swap true true c = refl
or-or_swap true false c = refl
or-or_swap false b c = refl
