-- The order by rank exists, and there is only one.
use Rattle.std.proofs.Common.{◌≡◌, ℕ, zero, suc, ◌+◌, ◌<◌, ◌≤◌, ◌⊎◌, inl, inr, List, [], ◌∷◌, ◌++◌, take, length, refl, sym, subst, ◌∙◌, arith, add-one}
use Rattle.std.specs.Prelude.{slice_index}
use Rattle.std.specs.List.{Contains}
use Rattle.std.proofs.lemmas.Bool.{cases_lt}
use Rattle.std.proofs.lemmas.List.{take_all, take_more_same}
use Rattle.std.proofs.lemmas.List.Elements.{Contains-append_left, Contains-push}
use Rattle.snap_core.specs.declared.policy.Pol.{Pol}
use Rattle.snap_dep.specs.Dependencies.{Reaches, UsesBelow}
use Rattle.snap_dep.specs.Ranks.{IsGroup, IsNext, IsRank, HasOneRank}
use Rattle.snap_dep.proofs.Chains.{dec_reaches}
use Rattle.snap_dep.proofs.Choices.{Dec, dec_both, dec_not, dec_contains, Least, least, many, many-lt}
use Rattle.snap_dep.proofs.GroupLemmas.{dec_group}
use Rattle.snap_dep.proofs.Taking.{IsBegun, IsClear, begun_groups, begun_once, begun_more, clear_next, some_clear}
use Rattle.std.proofs.lemmas.Bool.{cases_eq}

module _ (p : Pol) (n : ℕ) (below : UsesBelow n p) where
  abbrev pub IsLeft : List ℕ → ℕ → Type 0
  IsLeft order g = IsGroup p n g × (Contains order g → ⊥)

  dec_left : (order : List ℕ) (g : ℕ) → Dec (IsLeft order g)
  dec_left order g = dec_both (dec_group p n below g) (dec_not (dec_contains order g))

  abbrev Blocks : List ℕ → ℕ → ℕ → Type 0
  Blocks order g h = IsLeft order h × ((h ≡ g → ⊥) × Reaches p h g)

  dec_blocks : (order : List ℕ) (g h : ℕ) → Dec (Blocks order g h)
  dec_blocks order g h = dec_both (dec_left order h) (dec_both (dec_not (cases_eq h g)) (dec_reaches p n below h g))

  dec_clear : (order : List ℕ) (g : ℕ) → Dec (IsClear p n order g)
  dec_clear order g = from (dec_left order g) (least (Blocks order g) (dec_blocks order g) n)
    where
      from : Dec (IsLeft order g) → Least (Blocks order g) n → Dec (IsClear p n order g)
      from (inr f) found = inr (λ c. f (c.group, c.new))
      from (inl left) (inl (h, l, b, first)) = inr (λ c. c.clear h b.0.0 b.0.1 b.1.0 b.1.1)
      from (inl left) (inr none) = inl (record { group = left.0; new = left.1; clear = λ h hg hnew ne r. none h hg.below ((hg, hnew), (ne, r)) })

  -- a group is the next, or all are taken
  abbrev NextOrDone : List ℕ → Type 0
  NextOrDone order = ((g : ℕ) × IsNext p n order g) ⊎ ((g : ℕ) → IsGroup p n g → Contains order g)

  next_or_done : (order : List ℕ) → IsBegun p n order → NextOrDone order
  next_or_done order begun = from (least (IsClear p n order) (dec_clear order) n)
    where
      taken : ((k : ℕ) → k < n → IsClear p n order k → ⊥) → (g : ℕ) → IsGroup p n g → Dec (Contains order g) → Contains order g
      taken none g gg (inl c) = c
      taken none g gg (inr f) = let m = some_clear p n below order begun g gg f in absurd (none m.0 m.1 m.2)

      from : Least (IsClear p n order) n → NextOrDone order
      from (inl (g, l, c, first)) = inl (g, clear_next p n below order begun g c first)
      from (inr none) = inr (λ g gg. taken none g gg (dec_contains order g))

  fewer_left : (order : List ℕ) (g : ℕ) → IsNext p n order g → many (dec_left (order ++ g ∷ [])) n < many (dec_left order) n
  fewer_left order g next =
      many-lt (IsLeft (order ++ g ∷ [])) (IsLeft order) (λ k h. (h.0, λ c. h.1 (Contains-append_left order (g ∷ []) k c))) (dec_left (order ++ g ∷ [])) (dec_left order)
      n g next.group.below (next.group, next.new) (λ h. h.1 (Contains-push order g))

  build : (k : ℕ) (order : List ℕ) → IsBegun p n order → many (dec_left order) n ≤ k → (o : List ℕ) × IsRank p n o
  build zero order begun le = from (next_or_done order begun)
    where
      from : NextOrDone order → (o : List ℕ) × IsRank p n o
      from (inl (g, next)) = absurd (let fewer = fewer_left order g next in omega (arith, fewer, le))
      from (inr done) = (order, record { steps = begun; all = done })
  build (suc k) order begun le = from (build k) (next_or_done order begun)
    where
      from : ((order : List ℕ) → IsBegun p n order → many (dec_left order) n ≤ k → (o : List ℕ) × IsRank p n o) → NextOrDone order → (o : List ℕ) × IsRank p n o
      from rest (inl (g, next)) = rest (order ++ g ∷ []) (begun_more p n order g begun next) (let fewer = fewer_left order g next in omega (arith, fewer, le))
      from rest (inr done) = (order, record { steps = begun; all = done })

  pub rank_exists : (o : List ℕ) × IsRank p n o
  rank_exists = build (many (dec_left []) n) [] (λ i l. absurd (omega (arith, l))) (omega arith)

-- ---- only one
module _ (p : Pol) (n : ℕ) where
  same_next : (taken : List ℕ) (x y : ℕ) → IsNext p n taken x → IsNext p n taken y → x ≡ y
  same_next taken x y a b =
      let up = a.least y b.group b.new b.ready in
      let down = b.least x a.group a.new a.ready in
      omega (arith, up, down)

  no_longer : (a b : List ℕ) → IsRank p n a → IsRank p n b → (k : ℕ) → k < length a → length b ≤ k → take k a ≡ take k b → ⊥
  no_longer a b x y k l le e =
      (x.steps k l).new (subst (λ taken. Contains taken (slice_index a k)) (sym (e ∙ take_all k b le)) (y.all (slice_index a k) (x.steps k l).group))

  same_step : (a b : List ℕ) → IsRank p n a → IsRank p n b → (k : ℕ) → take k a ≡ take k b → (k < length a) ⊎ (length a ≤ k) → (k < length b) ⊎ (length b ≤ k) → take (k + 1) a ≡ take (k + 1) b
  same_step a b x y k e (inl l) (inl m) =
      take_more_same a b k 0 l m e
      (same_next (take k b) (slice_index a k) (slice_index b k) (subst (λ taken. IsNext p n taken (slice_index a k)) e (x.steps k l)) (y.steps k m))
  same_step a b x y k e (inl l) (inr m) = absurd (no_longer a b x y k l m e)
  same_step a b x y k e (inr l) (inl m) = absurd (no_longer b a y x k m l (sym e))
  same_step a b x y k e (inr l) (inr m) = take_all (k + 1) a (omega (arith, l)) ∙ sym (take_all k a l) ∙ e ∙ take_all k b m ∙ sym (take_all (k + 1) b (omega (arith, m)))

  same_take : (a b : List ℕ) → IsRank p n a → IsRank p n b → (k : ℕ) → take k a ≡ take k b
  same_take a b x y zero = refl
  same_take a b x y (suc k) = subst (λ m. take m a ≡ take m b) (add-one k) (same_step a b x y k (same_take a b x y k) (cases_lt k (length a)) (cases_lt k (length b)))

  pub rank_unique : (a b : List ℕ) → IsRank p n a → IsRank p n b → a ≡ b
  rank_unique a b x y =
      let k = length a + length b in
      sym (take_all k a (omega arith)) ∙ same_take a b x y k ∙ take_all k b (omega arith)

pub has_one : (p : Pol) (n : ℕ) → UsesBelow n p → HasOneRank p n
has_one p n below = record {
  exists = rank_exists p n below;
  unique = rank_unique p n;
  groups = λ order r g. (begun_groups p n order r.steps g, r.all g);
  once = λ order r. begun_once p n order r.steps;
}
