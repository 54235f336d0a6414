-- Each variable has one group, and what precedes a group reaches it.
use Rattle.std.proofs.Common.{◌≡◌, ◌≢◌, ℕ, ◌<◌, ◌≤◌, ◌⊎◌, inl, inr, refl, subst, arith}
use Rattle.std.proofs.lemmas.Bool.{cases_eq, cases_lt}
use Rattle.snap_core.specs.declared.policy.Pol.{Pol}
use Rattle.snap_dep.specs.Dependencies.{Reaches, one, more, Tied, UsesBelow}
use Rattle.snap_dep.specs.Ranks.{IsGroup, Precedes}
use Rattle.snap_dep.proofs.Below.{depends_below}
use Rattle.snap_dep.proofs.Chains.{joined, tied_on, tied_back, tied_then, then_tied, dec_reaches, dec_tied}
use Rattle.snap_dep.proofs.Choices.{Dec, dec_both, dec_not, Least, least}

-- two groups that are tied are one
pub same_group : (p : Pol) (n g h : ℕ) → IsGroup p n g → IsGroup p n h → Tied p g h → g ≡ h
same_group p n g h a b t = let up = a.least h b.below t in let down = b.least g a.below (tied_back p g h t) in omega (arith, up, down)

pub precedes_reaches : (p : Pol) (g h : ℕ) → Precedes p g h → Reaches p g h
precedes_reaches p g h (s, t, gs, ht, d) = then_tied p g t h (tied_then p g s t gs (one d)) (tied_back p h t ht)

module _ (p : Pol) (n : ℕ) (below : UsesBelow n p) where
  -- the group of a variable
  pub group_of : (v : ℕ) → v < n → (g : ℕ) × IsGroup p n g × Tied p g v
  group_of v l = from (least (λ g. Tied p g v) (λ g. dec_tied p n below g v) n)
    where
      at_least : (g : ℕ) → Tied p g v → ((j : ℕ) → j < g → Tied p j v → ⊥) → (u : ℕ) → Tied p g u → (u < g) ⊎ (g ≤ u) → g ≤ u
      at_least g t first u gu (inl lt) = absurd (first u lt (tied_on p u g v (tied_back p g u gu) t))
      at_least g t first u gu (inr le) = le

      from : Least (λ g. Tied p g v) n → (g : ℕ) × IsGroup p n g × Tied p g v
      from (inl w) = (w.0, record { below = w.1; least = λ u lu gu. at_least w.0 w.2 w.3 u gu (cases_lt u w.0) }, w.2)
      from (inr none) = absurd (none v l (inl refl))

  -- what holds of a group and of each one that precedes such a group holds of each one that reaches it
  pub back : (T : ℕ → Type 0) → ((g h : ℕ) → T g → IsGroup p n h → Precedes p h g → T h)
      → {s t : ℕ} → Reaches p s t → (g h : ℕ) → IsGroup p n h → Tied p h s → T g → Tied p g t → T h
  back T closed (one {s = s} {t = t} d) g h hg hs tg gt = closed g h tg hg (s, t, hs, gt, d)
  back T closed (more {s = s} {t = m} {u = t} d r) g h hg hs tg gt =
      let k = group_of m (depends_below n p below s m d).1 in
      closed k.0 h (back T closed r g k.0 k.1 k.2 tg gt) hg (s, m, hs, k.2, d)

  -- the one reaches the other, and isn't tied to it
  abbrev pub Before : ℕ → ℕ → Type 0
  Before g h = Reaches p g h × (Reaches p h g → ⊥)

  pub before_on : (a b c : ℕ) → Before a b → Before b c → Before a c
  before_on a b c x y = (joined p x.0 y.0, λ r. y.1 (joined p r x.0))

  pub before_proper : (a : ℕ) → Before a a → ⊥
  before_proper a x = x.1 x.0

  pub dec_before : (a b : ℕ) → Dec (Before a b)
  dec_before a b = dec_both (dec_reaches p n below a b) (dec_not (dec_reaches p n below b a))

  -- a group that reaches another one is before it
  pub group_before : (g h : ℕ) → IsGroup p n g → IsGroup p n h → g ≢ h → Reaches p g h → Before g h
  group_before g h a b ne r = (r, λ q. ne (same_group p n g h a b (inr (r, q))))

  pub dec_group : (g : ℕ) → Dec (IsGroup p n g)
  dec_group g = by_size (cases_lt g n)
    where
      from : g < n → (k : ℕ) × IsGroup p n k × Tied p k g → Dec (IsGroup p n g)
      from l (k, a, t) = by_number (cases_eq k g)
        where
          by_number : (k ≡ g) ⊎ (k ≡ g → ⊥) → Dec (IsGroup p n g)
          by_number (inl e) = inl (subst (IsGroup p n) e a)
          by_number (inr ne) = inr (λ b. ne (same_group p n k g a b t))

      by_size : (g < n) ⊎ (n ≤ g) → Dec (IsGroup p n g)
      by_size (inl l) = from l (group_of g l)
      by_size (inr l) = inr (λ b. absurd (let lt = b.below in omega (arith, l, lt)))
