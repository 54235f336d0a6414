-- Lists that are compared element by element.
use Rattle.std.proofs.Common.{◌≡◌, ◌<◌, ◌+◌, ℕ, List, [], ◌∷◌, ◌++◌, length, take, get_or, sym, ap, ◌∙◌}
use Rattle.std.proofs.lemmas.List.{take_more}

-- one element more
pub take_both : {X : Type 0} (xs ys : List X) (i : ℕ) (x y : X) → i < length xs → i < length ys → x ≡ get_or xs i x → y ≡ get_or ys i y → x ≡ y → take i xs ≡ take i ys → take (i + 1) xs ≡ take (i + 1) ys
take_both {X} xs ys i x y lx ly ix iy same before =
    take_more xs i x lx
    ∙ ap (λ (z : X). take i xs ++ z ∷ []) (sym ix ∙ same ∙ iy)
    ∙ ap (λ (zs : List X). zs ++ get_or ys i y ∷ []) before
    ∙ sym (take_more ys i y ly)
