-- What holds of the names of fields and arrays together holds of the arrays' alone.
use Rattle.std.proofs.Common.{ℕ, List, [], ◌∷◌, ◌++◌, bytes_eq}
use Rattle.std.specs.List.{IsDistinct}

pub distinct_back : (xs ys : List (List ℕ)) → IsDistinct bytes_eq (xs ++ ys) → IsDistinct bytes_eq ys
unfolding IsDistinct
distinct_back [] ys h = h
distinct_back (x ∷ xs) ys h = distinct_back xs ys h.1
