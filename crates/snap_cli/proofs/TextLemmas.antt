-- A program has but one text.
use Rattle.std.proofs.Common.{◌≡◌, ℕ, ◌<◌, ◌≤◌, ◌⊎◌, inl, inr, List, length, take, sym, subst, ap₂, ◌∙◌, arith}
use Rattle.std.proofs.lemmas.Bool.{cases_eq, cases_lt}
use Rattle.std.proofs.lemmas.Grind.{same_number_lists}
use Rattle.snap_dep.specs.Dependencies.{Depends, Tied, TiedIsEquivalence, UsesBelow}
use Rattle.snap_dep.specs.Ranks.{HasOneRank, IsNext, IsRank, IsRankIn, rank_of}
use Rattle.snap_dep.specs.Relations.{PrecedesPair, Lists}
use Rattle.snap_dep.proofs.Below.{UsesBelow-fits}
use Rattle.snap_cli.specs.Deps.{HasOneText, groups_text}
use Rattle.snap_cli.proofs.Shared.{count, Grouping, IsGrouping, Pol, slice_index}
use Rattle.snap_cli.proofs.Rising.{same_rising}

one_way : (a b : ℕ × ℕ) → PrecedesPair a b → PrecedesPair b a → ⊥
one_way a b (inl l) (inl m) = omega (arith, l, m)
one_way a b (inl l) (inr m) = let e = m.0 in omega (arith, l, e)
one_way a b (inr l) (inl m) = let e = l.0 in omega (arith, m, e)
one_way a b (inr l) (inr m) = let x = l.1 in let y = m.1 in omega (arith, x, y)

same_pairs : (R : ℕ → ℕ → Type 0) (a b : List (ℕ × ℕ)) → Lists R a → Lists R b → a ≡ b
same_pairs R a b x y =
    same_rising PrecedesPair one_way a b x.rising y.rising
    (λ z c. (y.each z.0 z.1).1 ((x.each z.0 z.1).0 c)) (λ z c. (x.each z.0 z.1).1 ((y.each z.0 z.1).0 c))

module _ (p : Pol) (n : ℕ) (tied : TiedIsEquivalence p) (one : HasOneRank p n) where
  -- groups of the order that are tied have one place
  same_place : (order : List ℕ) → IsRank p n order → (i j : ℕ) → i < length order → j < length order → Tied p (slice_index order i) (slice_index order j) → i ≡ j
  same_place order ranked i j l m t = from (cases_eq i j) (cases_lt i j)
    where
      a : IsNext p n (take i order) (slice_index order i)
      a = ranked.steps i l

      b : IsNext p n (take j order) (slice_index order j)
      b = ranked.steps j m

      same : slice_index order i ≡ slice_index order j
      same =
          let up = a.group.least (slice_index order j) b.group.below t in
          let down = b.group.least (slice_index order i) a.group.below (tied.back _ _ t) in
          omega (arith, up, down)

      from : (i ≡ j) ⊎ (i ≡ j → ⊥) → (i < j) ⊎ (j ≤ i) → i ≡ j
      from (inl e) c = e
      from (inr ne) (inl before) = absurd (one.once order ranked i j 0 before m same)
      from (inr ne) (inr after) = absurd (one.once order ranked j i 0 (let e = ne in omega arith) l (sym same))

  same_rank : (order : List ℕ) (r s : ℕ → ℕ) → IsRank p n order → IsRankIn p n order r → IsRankIn p n order s → (v : ℕ) → v < n → r v ≡ s v
  same_rank order r s ranked x y v l =
      same_place order ranked (r v) (s v) (x.below v l) (y.below v l) (tied.on _ v _ (x.group v l) (tied.back _ _ (y.group v l)))

  -- two groupings tell the same ranks and the same order
  pub one_grouping : (a b : Grouping) → IsGrouping p n a → IsGrouping p n b → (a.ranks ≡ b.ranks) × (a.order ≡ b.order)
  one_grouping a b x y =
      let order = one.unique a.order b.order x.order y.order in
      let ranks = subst (λ o. IsRankIn p n o (rank_of b)) (sym order) y.ranks in
      (same_number_lists a.ranks b.ranks (x.count ∙ sym y.count) (λ k l. same_rank a.order (rank_of a) (rank_of b) x.order x.ranks ranks k (subst (λ m. k < m) x.count l)), order)

  same_groups : (names : List (List ℕ)) (a b : Grouping) → IsGrouping p n a → IsGrouping p n b → groups_text names a ≡ groups_text names b
  same_groups names a b x y =
      let both = one_grouping a b x y in ap₂ (λ r o. groups_text names (record { ranks = r; order = o })) both.0 both.1

pub one_text : ((p : Pol) → TiedIsEquivalence p) → ((p : Pol) (n : ℕ) → UsesBelow n p → HasOneRank p n) → HasOneText
one_text tied one p bounded a b x y =
    let n = length p.arrays in
    let pairs = same_pairs (Depends p.body) x.pairs y.pairs x.dependencies y.dependencies in
    let groups = same_groups p.body n (tied p.body) (one p.body n (UsesBelow-fits (count p.fields) n p.body bounded.fits)) p.arrays x.grouping y.grouping x.groups y.groups in
    x.is ∙ rw (pairs, groups) (sym y.is)
