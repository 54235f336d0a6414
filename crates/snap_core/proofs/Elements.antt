-- What holds of each element of a list.
use Rattle.std.proofs.Common.{◌≡◌, ◌+◌, List, [], ◌∷◌, ◌++◌, length, map, refl, subst, arith}
use Rattle.std.specs.List.{All}
use Rattle.std.proofs.lemmas.List.{get_or-append-add, get_or-map, get_or_append_left, length-append, length-map}
use Rattle.std.proofs.lemmas.List.Elements.{All-tail}

module _ {X : Type 0} (P : X → Type 0) where
  pub All-front : (xs ys : List X) → All P (xs ++ ys) → All P xs
  All-front xs ys h = λ i d l. subst P (get_or_append_left xs ys d i l) (h i d (omega (arith, l, length-append xs ys)))

  pub All-back : (xs ys : List X) → All P (xs ++ ys) → All P ys
  All-back xs ys h = λ i d l. subst P (get_or-append-add xs ys i d) (h (length xs + i) d (omega (arith, l, length-append xs ys)))

  pub All-unmap : {Y : Type 0} (f : Y → X) (ys : List Y) → All P (map f ys) → All (λ y. P (f y)) ys
  All-unmap f ys h = λ i d l. subst P (get_or-map f ys i d (f d) l) (h i (f d) (omega (arith, l, length-map ys f)))

-- two functions that agree on each element make one list
pub map-agree : {X Y : Type 0} (f g : X → Y) (xs : List X) → All (λ x. f x ≡ g x) xs → map f xs ≡ map g xs
map-agree f g [] h = refl
map-agree f g (x ∷ xs) h = let first : f x ≡ g x = h 0 x (omega arith) in let rest = map-agree f g xs (All-tail (λ y. f y ≡ g y) x xs h) in (λ i. first i ∷ rest i)
