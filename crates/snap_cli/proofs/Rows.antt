-- Texts of the numbers below a bound, put one after another.
use Rattle.std.proofs.Common.{◌≡◌, ◌==◌, ℕ, suc, ◌+◌, ◌⊎◌, inl, inr, true, false, List, [], ◌∷◌, ◌++◌, refl, ◌∙◌, append_assoc, append-nil, arith}
use Rattle.std.specs.List.{filter, range_with_len}
use Rattle.std.proofs.lemmas.Bool.Decides.{eqb_tells}
use Rattle.std.proofs.lemmas.List.Concat.{flat_map-append}
use Rattle.std.proofs.lemmas.List.Elements.{filter-append}
use Rattle.snap_faithful.proofs.SingleOwnerRuns.{range_more as range_from}
use Rattle.snap_cli.proofs.Shared.{flat_map}

range_more : (n : ℕ) → range_with_len 0 (n + 1) ≡ range_with_len 0 n ++ n ∷ []
range_more n = let e : n + 1 ≡ suc n = omega arith in let same : 0 + n ≡ n = omega arith in rw e (range_from 0 n ∙ rw same refl)

-- one more text behind the others
text_more : (f : ℕ → List ℕ) (a b c ns : List ℕ) (n : ℕ) → b ≡ a ++ flat_map f ns → c ≡ b ++ f n → c ≡ a ++ flat_map f (ns ++ n ∷ [])
text_more f a b c ns n before more =
    let split = flat_map-append f ns (n ∷ []) in let last = append-nil (f n) in let sides = append_assoc a (flat_map f ns) (f n) in
    rw (more, before, split, last) sides

pub rows_more : (f : ℕ → List ℕ) (a b c : List ℕ) (n : ℕ) → b ≡ a ++ flat_map f (range_with_len 0 n) → c ≡ b ++ f n → c ≡ a ++ flat_map f (range_with_len 0 (n + 1))
rows_more f a b c n before more = rw (range_more n) (text_more f a b c (range_with_len 0 n) n before more)

module _ (f : ℕ → List ℕ) (rank : ℕ → ℕ) (r : ℕ) where
  kept : (ns : List ℕ) (n : ℕ) → rank n ≡ r → filter (λ v. rank v == r) (ns ++ n ∷ []) ≡ filter (λ v. rank v == r) ns ++ n ∷ []
  kept ns n e = from (eqb_tells (rank n) r)
    where
      from : (((rank n == r) ≡ true) × (rank n ≡ r)) ⊎ (((rank n == r) ≡ false) × (rank n ≡ r → ⊥)) → filter (λ v. rank v == r) (ns ++ n ∷ []) ≡ filter (λ v. rank v == r) ns ++ n ∷ []
      from (inl t) = rw (filter-append (λ v. rank v == r) ns (n ∷ []), t.0) refl
      from (inr f) = absurd (f.1 e)

  dropped : (ns : List ℕ) (n : ℕ) → (rank n ≡ r → ⊥) → filter (λ v. rank v == r) (ns ++ n ∷ []) ≡ filter (λ v. rank v == r) ns
  dropped ns n ne = from (eqb_tells (rank n) r)
    where
      from : (((rank n == r) ≡ true) × (rank n ≡ r)) ⊎ (((rank n == r) ≡ false) × (rank n ≡ r → ⊥)) → filter (λ v. rank v == r) (ns ++ n ∷ []) ≡ filter (λ v. rank v == r) ns
      from (inl t) = absurd (ne t.1)
      from (inr f) = rw (filter-append (λ v. rank v == r) ns (n ∷ []), f.0) (append-nil (filter (λ v. rank v == r) ns))

  pub members_more : (a b c : List ℕ) (n : ℕ) → rank n ≡ r → b ≡ a ++ flat_map f (filter (λ v. rank v == r) (range_with_len 0 n)) → c ≡ b ++ f n
      → c ≡ a ++ flat_map f (filter (λ v. rank v == r) (range_with_len 0 (n + 1)))
  members_more a b c n e before more =
      let ns = range_with_len 0 n in
      rw (range_more n, kept ns n e) (text_more f a b c (filter (λ v. rank v == r) ns) n before more)

  pub members_same : (a b : List ℕ) (n : ℕ) → (rank n ≡ r → ⊥) → b ≡ a ++ flat_map f (filter (λ v. rank v == r) (range_with_len 0 n))
      → b ≡ a ++ flat_map f (filter (λ v. rank v == r) (range_with_len 0 (n + 1)))
  members_same a b n ne before = rw (range_more n, dropped (range_with_len 0 n) n ne) before
