-- The groups that are left, as a set, and the next one among them.
use Rattle.std.proofs.Common.{◌≡◌, ◌≢◌, ◌↔◌, ℕ, ◌+◌, ◌<◌, ◌^◌, ◌⊎◌, inl, inr, List, [], ◌∷◌, ◌++◌, sym, subst, arith, bit_or}
use Rattle.std.specs.Prelude.{IsTrue}
use Rattle.std.specs.List.{Contains}
use Rattle.std.proofs.lemmas.Bool.{cases_eq}
use Rattle.std.proofs.lemmas.List.Elements.{Contains-append_left, Contains-push, Contains-push_cases}
use Rattle.snap_core.specs.declared.policy.Pol.{Pol}
use Rattle.snap_core.specs.Arrays.{has}
use Rattle.snap_dep.specs.Dependencies.{Reaches, UsesBelow}
use Rattle.snap_dep.specs.Ranks.{IsGroup, IsRank}
use Rattle.snap_dep.specs.Relations.{IsRelation, IsSetOf, IsFree}
use Rattle.snap_dep.proofs.Choices.{Dec, dec_contains}
use Rattle.snap_dep.proofs.Sets.{in_or, in_pow}
use Rattle.snap_dep.proofs.Taking.{IsBegun, IsClear, begun_more, clear_next, some_clear}

-- ---- a set of numbers with a property, up to k
module _ (G : ℕ → Type 0) (w k : ℕ) (below : IsSetOf (λ v. (v < k) × G v) w) where
  pub set_more : G k → IsSetOf (λ v. (v < k + 1) × G v) (bit_or w (2 ^ k))
  set_more g v = (λ h. to ((in_or w (2 ^ k) v).0 h), λ h. (in_or w (2 ^ k) v).1 (from h.0 h.1 (cases_eq v k)))
    where
      to : (IsTrue (has w v) ⊎ IsTrue (has (2 ^ k) v)) → (v < k + 1) × G v
      to (inl h) = let b = (below v).0 h in ((let l = b.0 in omega (arith, l)), b.1)
      to (inr h) = let e = (in_pow k v).0 h in (omega (arith, e), subst G e g)

      from : v < k + 1 → G v → (v ≡ k) ⊎ (v ≡ k → ⊥) → (IsTrue (has w v) ⊎ IsTrue (has (2 ^ k) v))
      from l x (inl e) = inr ((in_pow k v).1 (sym e))
      from l x (inr ne) = inl ((below v).1 (omega (arith, l, ne), x))

  pub set_same : (G k → ⊥) → IsSetOf (λ v. (v < k + 1) × G v) w
  set_same f v = (λ h. let b = (below v).0 h in ((let l = b.0 in omega (arith, l)), b.1), λ h. (below v).1 (from h.0 h.1 (cases_eq v k)))
    where
      from : v < k + 1 → G v → (v ≡ k) ⊎ (v ≡ k → ⊥) → (v < k) × G v
      from l x (inl e) = absurd (f (subst G e x))
      from l x (inr ne) = (omega (arith, l, ne), x)

-- the groups so far were taken by the rule, and the others are left
pub record SoFar (p : Pol) (n left : ℕ) (order : List ℕ) : Type 0 where
  pub begun : IsBegun p n order
  pub rest : IsSetOf (λ g. IsGroup p n g × (Contains order g → ⊥)) left

pub none_taken : (p : Pol) (n left : ℕ) → IsSetOf (IsGroup p n) left → SoFar p n left []
none_taken p n left all = record {
  begun = λ i l. absurd (omega (arith, l));
  rest = λ g. (λ h. ((all g).0 h, λ c. absurd (let l = c.1 in omega (arith, l))), λ h. (all g).1 h.0);
}

module _ (p : Pol) (n left : ℕ) (order rows : List ℕ) (below : UsesBelow n p) (same : IsRelation (Reaches p) rows) (so_far : SoFar p n left order) where
  free_clear : (g : ℕ) → IsFree rows left g → IsClear p n order g
  free_clear g f =
      let it = (so_far.rest g).0 f.inside in
      record { group = it.0; new = it.1; clear = λ h hg hnew ne r. f.free h ((so_far.rest h).1 (hg, hnew)) ne ((same h g).1 r) }

  clear_free : (g : ℕ) → IsClear p n order g → IsFree rows left g
  clear_free g c = record {
    inside = (so_far.rest g).1 (c.group, c.new);
    free = λ h inside ne r. (let it = (so_far.rest h).0 inside in c.clear h it.0 it.1 ne ((same h g).0 r));
  }

  -- one more is taken
  pub take_next : (g after : ℕ) → IsFree rows left g → ((v : ℕ) → v < g → ¬ (IsFree rows left v))
      → ((v : ℕ) → IsTrue (has after v) ↔ (IsTrue (has left v) × (v ≢ g))) → SoFar p n after (order ++ g ∷ [])
  take_next g after f first less = record {
    begun = begun_more p n order g so_far.begun (clear_next p n below order so_far.begun g (free_clear g f) (λ u l c. first u l (clear_free u c)));
    rest = λ v. (to v, from v);
  }
    where
      not_taken : (v : ℕ) → (Contains order v → ⊥) → v ≢ g → Contains order v ⊎ (g ≡ v) → ⊥
      not_taken v new ne (inl c) = new c
      not_taken v new ne (inr e) = ne (sym e)

      to : (v : ℕ) → IsTrue (has after v) → IsGroup p n v × (Contains (order ++ g ∷ []) v → ⊥)
      to v h =
          let a = (less v).0 h in
          let b = (so_far.rest v).0 a.0 in
          (b.0, λ c. not_taken v b.1 a.1 (Contains-push_cases order g v c))

      from : (v : ℕ) → IsGroup p n v × (Contains (order ++ g ∷ []) v → ⊥) → IsTrue (has after v)
      from v h =
          (less v).1 (
            (so_far.rest v).1 (h.0, λ c. h.1 (Contains-append_left order (g ∷ []) v c)),
            λ e. h.1 (subst (Contains (order ++ g ∷ [])) (sym e) (Contains-push order g)),
          )

  -- none is left
  pub all_taken : ((v : ℕ) → v < n → ¬ (IsFree rows left v)) → IsRank p n order
  all_taken none = record { steps = so_far.begun; all = λ g gg. taken g gg (dec_contains order g) }
    where
      taken : (g : ℕ) → IsGroup p n g → Dec (Contains order g) → Contains order g
      taken g gg (inl c) = c
      taken g gg (inr f) = let m = some_clear p n below order so_far.begun g gg f in absurd (none m.0 m.1 (clear_free m.0 m.2))
