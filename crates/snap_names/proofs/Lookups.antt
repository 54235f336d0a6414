-- Look-ups in a map of names, by the bytes of a name.
use Rattle.std.proofs.Common.{◌≡◌, ℕ, List, [], ◌∷◌, refl, ap, cond, Some, Vec, Global, bytes_eq}
use Rattle.std.specs.Map.{lookup}
use Rattle.snap_names.specs.Senses.{Sense}
use Rattle.snap_names.specs.Parts.{names_in}

pub lookup-names_in : (name : List ℕ) (es : List (Vec ℕ Global × Sense)) → lookup (bytes_eq name) (names_in es) ≡ lookup (λ k. bytes_eq name k.items) es
lookup-names_in name [] = refl
lookup-names_in name (e ∷ es) = ap (λ rest. cond (bytes_eq name e.0.items) (Some e.1) rest) (lookup-names_in name es)
