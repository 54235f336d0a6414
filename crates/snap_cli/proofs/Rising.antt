-- A rising list is the only one with its elements.
use Rattle.std.proofs.Common.{◌≡◌, suc, ◌⊎◌, inl, inr, List, [], ◌∷◌, refl, sym, subst, ap₂, arith}
use Rattle.std.specs.List.{AllPairs, Contains}
use Rattle.snap_core.proofs.Members.{Contains-here}
use Rattle.snap_topology.proofs.Joined.{Contains-cons_cases, Contains-tail}

module _ {X : Type 0} (R : X → X → Type 0) (one_way : (a b : X) → R a b → R b a → ⊥) where
  head_below : (x : X) (xs : List X) → AllPairs R (x ∷ xs) → (z : X) → Contains xs z → R x z
  head_below x xs rising z c = let below = c.1 in subst (R x) c.2 (rising 0 (suc c.0) z (omega arith) (omega arith))

  tail_rises : (x : X) (xs : List X) → AllPairs R (x ∷ xs) → AllPairs R xs
  tail_rises x xs rising i j d before below = rising (suc i) (suc j) d (omega arith) (omega arith)

  same_head : (x y : X) (xs ys : List X) → AllPairs R (x ∷ xs) → AllPairs R (y ∷ ys) → (y ≡ x) ⊎ Contains ys x → (x ≡ y) ⊎ Contains xs y → x ≡ y
  same_head x y xs ys a b (inl e) found = sym e
  same_head x y xs ys a b (inr c) (inl e) = e
  same_head x y xs ys a b (inr c) (inr d) = absurd (one_way x y (head_below x xs a y d) (head_below y ys b x c))

  -- what is behind the one head is behind the other
  behind : (x y : X) (xs ys : List X) → AllPairs R (x ∷ xs) → x ≡ y → (z : X) → Contains xs z → (y ≡ z) ⊎ Contains ys z → Contains ys z
  behind x y xs ys a e z c (inr d) = d
  behind x y xs ys a e z c (inl f) = let up = head_below x xs a z c in let same = subst (λ w. R w z) e up in let itself = subst (λ w. R w z) f same in absurd (one_way z z itself itself)

  pub same_rising : (xs ys : List X) → AllPairs R xs → AllPairs R ys → ((z : X) → Contains xs z → Contains ys z) → ((z : X) → Contains ys z → Contains xs z) → xs ≡ ys
  same_rising [] [] a b into from = refl
  same_rising [] (y ∷ ys) a b into from = let c = from y (Contains-here y ys) in let none = c.1 in absurd (omega arith)
  same_rising (x ∷ xs) [] a b into from = let c = into x (Contains-here x xs) in let none = c.1 in absurd (omega arith)
  same_rising (x ∷ xs) (y ∷ ys) a b into from =
      let e = same_head x y xs ys a b (Contains-cons_cases y ys x (into x (Contains-here x xs))) (Contains-cons_cases x xs y (from y (Contains-here y ys))) in
      ap₂ ◌∷◌ e (same_rising xs ys (tail_rises x xs a) (tail_rises y ys b)
      (λ z c. behind x y xs ys a e z c (Contains-cons_cases y ys z (into z (Contains-tail x xs z c))))
      (λ z c. behind y x ys xs b (sym e) z c (Contains-cons_cases x xs z (from z (Contains-tail y ys z c)))))
