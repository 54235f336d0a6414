-- Members of lists of facts.
use Rattle.std.proofs.Common.{◌≡◌, ◌⊎◌, inl, inr, List, [], ◌∷◌, ◌++◌, refl, sym, subst, arith}
use Rattle.std.specs.Prelude.{All}
use Rattle.std.proofs.lemmas.List.Elements.{All-cons, All-nil, All-tail}
use Rattle.snap_context.specs.declared.fact.Fact.{Fact}
use Rattle.snap_context.specs.Lean.{Among}

pub among_last : (f : Fact) (xs : List Fact) (x : Fact) → Among f (xs ++ x ∷ []) → Among f xs ⊎ (f ≡ x)
among_last f [] x (inl e) = inr e
among_last f [] x (inr n) = absurd n
among_last f (y ∷ xs) x (inl e) = inl (inl e)
among_last f (y ∷ xs) x (inr h) = elim (among_last f xs x h) [ inl a ↦ inl (inr a) | inr e ↦ inr e ]

pub among_push : (f : Fact) (xs : List Fact) (x : Fact) → Among f xs ⊎ (f ≡ x) → Among f (xs ++ x ∷ [])
among_push f [] x (inl n) = absurd n
among_push f [] x (inr e) = inl e
among_push f (y ∷ xs) x (inl (inl e)) = inl e
among_push f (y ∷ xs) x (inl (inr a)) = inr (among_push f xs x (inl a))
among_push f (y ∷ xs) x (inr e) = inr (among_push f xs x (inr e))

pub all_among : (P : Fact → Type 0) (xs : List Fact) → ((f : Fact) → Among f xs → P f) → All P xs
all_among P [] h = All-nil P
all_among P (x ∷ xs) h = All-cons P x xs (h x (inl refl)) (all_among P xs (λ f a. h f (inr a)))

pub among_at : (P : Fact → Type 0) (xs : List Fact) → All P xs → (f : Fact) → Among f xs → P f
among_at P [] h f a = absurd a
among_at P (x ∷ xs) h f (inl e) = subst P (sym e) (h 0 x (omega arith))
among_at P (x ∷ xs) h f (inr a) = among_at P xs (All-tail P x xs h) f a
