-- What a list with one more in front contains.
use Rattle.std.proofs.Common.{suc, ◌<◌, List, ◌∷◌, length, refl, arith}
use Rattle.std.specs.List.{Contains}

pub Contains-here : {X : Type 0} (x : X) (xs : List X) → Contains (x ∷ xs) x
Contains-here x xs = (0, (let n = length xs in omega arith), refl)

pub Contains-later : {X : Type 0} (x y : X) (xs : List X) → Contains xs x → Contains (y ∷ xs) x
Contains-later x y xs h = (suc h.0, (let below : h.0 < length xs = h.1 in omega arith), h.2)
