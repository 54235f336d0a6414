-- What a policy uses, and its dependencies, from those of its parts.
use Rattle.std.proofs.Common.{◌≡◌, ◌↔◌, ℕ, ◌⊎◌, inl, inr, subst}
use Rattle.snap_core.specs.declared.policy.Pol.{Pol}
use Rattle.snap_core.specs.declared.policy.Pol.TheVariants.{Filter, Set, Change, Par', Seq', If', Atomic'}
use Rattle.snap_dep.specs.Dependencies.{Reads, Writes, Depends}
use Rattle.snap_dep.specs.Relations.{IsSetOf}

pub reads_at : {p q : Pol} (w : ℕ) → p ≡ q → IsSetOf (Reads p) w → IsSetOf (Reads q) w
reads_at w e h = subst (λ x. IsSetOf (Reads x) w) e h

pub writes_at : {p q : Pol} (w : ℕ) → p ≡ q → IsSetOf (Writes p) w → IsSetOf (Writes q) w
writes_at w e h = subst (λ x. IsSetOf (Writes x) w) e h

pub depends_at : {A B : Type 0} {p q : Pol} (s t : ℕ) → p ≡ q → A ↔ (B ⊎ Depends p s t) → A ↔ (B ⊎ Depends q s t)
depends_at {A} {B} s t e h = subst (λ x. A ↔ (B ⊎ Depends x s t)) e h

pub both_iff : {A B C D : Type 0} → A ↔ B → C ↔ D → (A × C) ↔ (B × D)
both_iff e f = (λ h. (e.0 h.0, f.0 h.1), λ h. (e.1 h.0, f.1 h.1))

-- one more part of a policy
pub either_more : {A B C D E : Type 0} → A ↔ (B ⊎ C) → B ↔ (D ⊎ E) → A ↔ (D ⊎ (E ⊎ C))
either_more {A} {B} {C} {D} {E} e f = (λ a. to (e.0 a), from)
  where
    inner : (D ⊎ E) → D ⊎ (E ⊎ C)
    inner (inl d) = inl d
    inner (inr x) = inr (inl x)

    to : (B ⊎ C) → D ⊎ (E ⊎ C)
    to (inl b) = inner (f.0 b)
    to (inr c) = inr (inr c)

    from : (D ⊎ (E ⊎ C)) → A
    from (inl d) = e.1 (inl (f.1 (inl d)))
    from (inr (inl x)) = e.1 (inl (f.1 (inr x)))
    from (inr (inr c)) = e.1 (inr c)

-- one part of a policy, of which the other is a case
pub either_within : {A B D E X : Type 0} → A ↔ (B ⊎ X) → B ↔ (D ⊎ E) → (E → X) → A ↔ (D ⊎ X)
either_within {A} {B} {D} {E} {X} e f sub = (λ a. to (e.0 a), from)
  where
    inner : (D ⊎ E) → D ⊎ X
    inner (inl d) = inl d
    inner (inr x) = inr (sub x)

    to : (B ⊎ X) → D ⊎ X
    to (inl b) = inner (f.0 b)
    to (inr x) = inr x

    from : (D ⊎ X) → A
    from (inl d) = e.1 (inl (f.1 (inl d)))
    from (inr x) = e.1 (inr x)

-- ---- a dependency is between variables that the policy uses
abbrev pub Uses : Pol → ℕ → Type 0
Uses p v = Reads p v ⊎ Writes p v

use_left : {A B C D : Type 0} → A ⊎ B → (A ⊎ C) ⊎ (B ⊎ D)
use_left (inl a) = inl (inl a)
use_left (inr b) = inr (inl b)

use_right : {A B C D : Type 0} → C ⊎ D → (A ⊎ C) ⊎ (B ⊎ D)
use_right (inl c) = inl (inr c)
use_right (inr d) = inr (inr d)

use_yes : {T A B C D : Type 0} → A ⊎ B → (T ⊎ (A ⊎ C)) ⊎ (B ⊎ D)
use_yes (inl a) = inl (inr (inl a))
use_yes (inr b) = inr (inl b)

use_no : {T A B C D : Type 0} → C ⊎ D → (T ⊎ (A ⊎ C)) ⊎ (B ⊎ D)
use_no (inl c) = inl (inr (inr c))
use_no (inr d) = inr (inr d)

pub depends_used : (p : Pol) (s t : ℕ) → Depends p s t → Uses p s × Uses p t
depends_used (Filter x) s t d = absurd d
depends_used (Set c a) s t d = absurd d
depends_used (Change u) s t d = absurd d
depends_used (Par' _ p _ q) s t (inl d) = let u = depends_used p s t d in (use_left u.0, use_left u.1)
depends_used (Par' _ p _ q) s t (inr d) = let u = depends_used q s t d in (use_right u.0, use_right u.1)
depends_used (Seq' _ p _ q) s t (inl (inl d)) = let u = depends_used p s t d in (use_left u.0, use_left u.1)
depends_used (Seq' _ p _ q) s t (inl (inr d)) = let u = depends_used q s t d in (use_right u.0, use_right u.1)
depends_used (Seq' _ p _ q) s t (inr d) = (inl (inl d.0), inr (inr d.1))
depends_used (If' x _ p _ q) s t (inl (inl d)) = let u = depends_used p s t d in (use_yes u.0, use_yes u.1)
depends_used (If' x _ p _ q) s t (inl (inr d)) = let u = depends_used q s t d in (use_no u.0, use_no u.1)
depends_used (If' x _ p _ q) s t (inr d) = (inl (inl d.0), inr d.1)
depends_used (Atomic' _ p) s t d = d
