-- The pairs of a relation, one after another.
use Rattle.std.proofs.Common.{◌≡◌, ℕ, ◌+◌, ◌<◌, ◌⊎◌, inl, inr, List, [], ◌∷◌, ◌++◌, get_or, sym, ap, subst, arith}
use Rattle.std.specs.List.{Contains}
use Rattle.std.proofs.lemmas.Bool.{cases_eq}
use Rattle.std.proofs.lemmas.List.Elements.{Contains-get_or, Contains-append_left, Contains-push, Contains-push_cases}
use Rattle.std.proofs.lemmas.List.Quantifiers.{all_pairs_push}
use Rattle.snap_dep.specs.Relations.{PrecedesPair, ListsTo}

module _ (R : ℕ → ℕ → Type 0) (s t : ℕ) (ps : List (ℕ × ℕ)) (so_far : ListsTo R (s, t) ps) where
  one_later : (a b : ℕ) → PrecedesPair (a, b) (s, t) → PrecedesPair (a, b) (s, t + 1)
  one_later a b (inl l) = inl l
  one_later a b (inr l) = inr (l.0, (let m = l.1 in omega (arith, m)))

  -- one before the next pair is before this one, or it is this one
  this_or_before : (a b : ℕ) → PrecedesPair (a, b) (s, t + 1) → PrecedesPair (a, b) (s, t) ⊎ ((s ≡ a) × (t ≡ b))
  this_or_before a b (inl l) = inl (inl l)
  this_or_before a b (inr l) = by_place (cases_eq b t)
    where
      by_place : (b ≡ t) ⊎ (b ≡ t → ⊥) → PrecedesPair (a, b) (s, t) ⊎ ((s ≡ a) × (t ≡ b))
      by_place (inl e) = inr (sym l.0, sym e)
      by_place (inr ne) = inl (inr (l.0, (let m = l.1 in omega (arith, m, ne))))

  pub list_more : R s t → ListsTo R (s, t + 1) (ps ++ (s, t) ∷ [])
  list_more r = record {
    rising = all_pairs_push PrecedesPair ps (s, t) so_far.rising (λ k d l. ((so_far.each (get_or ps k d).0 (get_or ps k d).1).0 (Contains-get_or ps k d l)).1);
    each = λ a b. (λ c. to a b (Contains-push_cases ps (s, t) (a, b) c), λ h. from a b h.0 (this_or_before a b h.1));
  }
    where
      to : (a b : ℕ) → Contains ps (a, b) ⊎ (◌≡◌ {A = ℕ × ℕ} (s, t) (a, b)) → R a b × PrecedesPair (a, b) (s, t + 1)
      to a b (inl c) = let h = (so_far.each a b).0 c in (h.0, one_later a b h.1)
      to a b (inr e) =
          let first : s ≡ a = ap (λ (x : ℕ × ℕ). x.0) e in
          let second : t ≡ b = ap (λ (x : ℕ × ℕ). x.1) e in
          (subst (λ (x : ℕ × ℕ). R x.0 x.1) e r, inr (sym first, omega (arith, second)))

      from : (a b : ℕ) → R a b → PrecedesPair (a, b) (s, t) ⊎ ((s ≡ a) × (t ≡ b)) → Contains (ps ++ (s, t) ∷ []) (a, b)
      from a b h (inl l) = Contains-append_left ps ((s, t) ∷ []) (a, b) ((so_far.each a b).1 (h, l))
      from a b h (inr e) = subst (Contains (ps ++ (s, t) ∷ [])) (λ i. (e.0 i, e.1 i)) (Contains-push ps (s, t))

  pub list_same : (R s t → ⊥) → ListsTo R (s, t + 1) ps
  list_same none = record {
    rising = so_far.rising;
    each = λ a b. (λ c. let h = (so_far.each a b).0 c in (h.0, one_later a b h.1), λ h. from a b h.0 (this_or_before a b h.1));
  }
    where
      from : (a b : ℕ) → R a b → PrecedesPair (a, b) (s, t) ⊎ ((s ≡ a) × (t ≡ b)) → Contains ps (a, b)
      from a b h (inl l) = (so_far.each a b).1 (h, l)
      from a b h (inr e) = absurd (none (subst (λ (x : ℕ × ℕ). R x.0 x.1) (λ i. (sym e.0 i, sym e.1 i)) h))

  -- all pairs from s are listed
  pub list_next : ((a b : ℕ) → R a b → b < t) → ListsTo R (s + 1, 0) ps
  list_next within = record {
    rising = so_far.rising;
    each = λ a b. (λ c. let h = (so_far.each a b).0 c in (h.0, to a b h.1), λ h. (so_far.each a b).1 (h.0, from a b h.0 h.1));
  }
    where
      to : (a b : ℕ) → PrecedesPair (a, b) (s, t) → PrecedesPair (a, b) (s + 1, 0)
      to a b (inl l) = inl (omega (arith, l))
      to a b (inr l) = inl (let e = l.0 in omega (arith, e))

      by_first : (a b : ℕ) → R a b → a < s + 1 → (a ≡ s) ⊎ (a ≡ s → ⊥) → PrecedesPair (a, b) (s, t)
      by_first a b r l (inl e) = inr (e, within a b r)
      by_first a b r l (inr ne) = inl (omega (arith, l, ne))

      from : (a b : ℕ) → R a b → PrecedesPair (a, b) (s + 1, 0) → PrecedesPair (a, b) (s, t)
      from a b r (inl l) = by_first a b r l (cases_eq a s)
      from a b r (inr l) = absurd (let m = l.1 in omega (arith, m))
