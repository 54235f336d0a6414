-- Chains of dependencies.
use Rattle.std.proofs.Common.{◌≡◌, ◌↔◌, ℕ, zero, suc, ◌<◌, ◌⊎◌, inl, inr, sym, subst, arith}
use Rattle.std.proofs.lemmas.Bool.{cases_eq}
use Rattle.snap_core.specs.declared.policy.Pred.{Pred}
use Rattle.snap_core.specs.declared.policy.Pred.TheVariants.{Id, Drop, Field, State, Not', And', Or'}
use Rattle.snap_core.specs.declared.policy.Pol.{Pol}
use Rattle.snap_core.specs.declared.policy.Pol.TheVariants.{Filter, Set, Change, Par', Seq', If', Atomic'}
use Rattle.snap_dep.specs.Dependencies.{Tests, Reads, Writes, Depends, Reaches, one, more, Tied, UsesBelow}
use Rattle.snap_dep.proofs.Below.{depends_below}
use Rattle.snap_dep.proofs.Choices.{Dec, dec_iff, dec_both, dec_either, dec_never}

-- ---- chains join, and tied variables form classes
pub joined : (p : Pol) {s t u : ℕ} → Reaches p s t → Reaches p t u → Reaches p s u
joined p (one d) r = more d r
joined p (more d q) r = more d (joined p q r)

pub tied_on : (p : Pol) (s t u : ℕ) → Tied p s t → Tied p t u → Tied p s u
tied_on p s t u (inl e) b = subst (λ x. Tied p x u) (sym e) b
tied_on p s t u (inr a) (inl e) = subst (λ x. Tied p s x) e (inr a)
tied_on p s t u (inr a) (inr b) = inr (joined p a.0 b.0, joined p b.1 a.1)

pub tied_back : (p : Pol) (s t : ℕ) → Tied p s t → Tied p t s
tied_back p s t (inl e) = inl (sym e)
tied_back p s t (inr a) = inr (a.1, a.0)

pub tied_then : (p : Pol) (s t u : ℕ) → Tied p s t → Reaches p t u → Reaches p s u
tied_then p s t u (inl e) r = subst (λ x. Reaches p x u) (sym e) r
tied_then p s t u (inr a) r = joined p a.0 r

pub then_tied : (p : Pol) (s t u : ℕ) → Reaches p s t → Tied p t u → Reaches p s u
then_tied p s t u r (inl e) = subst (λ x. Reaches p s x) e r
then_tied p s t u r (inr a) = joined p r a.0

-- ---- chains by way of the variables below k
abbrev pub Via : (ℕ → ℕ → Type 0) → ℕ → ℕ → ℕ → Type 0
Via R zero s t = R s t
Via R (suc k) s t = Via R k s t ⊎ (Via R k s k × Via R k k t)

pub via_direct : (R : ℕ → ℕ → Type 0) (k s t : ℕ) → R s t → Via R k s t
via_direct R zero s t h = h
via_direct R (suc k) s t h = inl (via_direct R k s t h)

pub via_map : (R Q : ℕ → ℕ → Type 0) → ((s t : ℕ) → R s t → Q s t) → (k s t : ℕ) → Via R k s t → Via Q k s t
via_map R Q f zero s t h = f s t h
via_map R Q f (suc k) s t (inl h) = inl (via_map R Q f k s t h)
via_map R Q f (suc k) s t (inr h) = inr (via_map R Q f k s k h.0, via_map R Q f k k t h.1)

through_less : (R : ℕ → ℕ → Type 0) (k m s t : ℕ) → ((s t : ℕ) → Via R k s m → Via R k m t → Via R k s t) → Via R (suc k) s m → Via R (suc k) m t → Via R (suc k) s t
through_less R k m s t less (inl a) (inl b) = inl (less s t a b)
through_less R k m s t less (inl a) (inr b) = inr (less s k a b.0, b.1)
through_less R k m s t less (inr a) (inl b) = inr (a.0, less k t a.1 b)
through_less R k m s t less (inr a) (inr b) = inr (a.0, b.1)

to_last : (R : ℕ → ℕ → Type 0) (k s : ℕ) → Via R (suc k) s k → Via R k s k
to_last R k s (inl a) = a
to_last R k s (inr a) = a.0

from_last : (R : ℕ → ℕ → Type 0) (k t : ℕ) → Via R (suc k) k t → Via R k k t
from_last R k t (inl a) = a
from_last R k t (inr a) = a.1

-- two such chains that meet below k make one
pub via_through : (R : ℕ → ℕ → Type 0) (k m : ℕ) → m < k → (s t : ℕ) → Via R k s m → Via R k m t → Via R k s t
via_through R zero m l s t a b = absurd (omega (arith, l))
via_through R (suc k) m l s t a b = by_place (via_through R k m) (cases_eq m k)
  where
    by_place : (m < k → (s t : ℕ) → Via R k s m → Via R k m t → Via R k s t) → (m ≡ k) ⊎ (m ≡ k → ⊥) → Via R (suc k) s t
    by_place less (inl e) = inr (to_last R k s (subst (λ x. Via R (suc k) s x) e a), from_last R k t (subst (λ x. Via R (suc k) x t) e b))
    by_place less (inr ne) = through_less R k m s t (less (omega (arith, l, ne))) a b

via_reaches : (p : Pol) (k s t : ℕ) → Via (Depends p) k s t → Reaches p s t
via_reaches p zero s t h = one h
via_reaches p (suc k) s t (inl h) = via_reaches p k s t h
via_reaches p (suc k) s t (inr h) = joined p (via_reaches p k s k h.0) (via_reaches p k k t h.1)

reaches_via : (p : Pol) (n : ℕ) → UsesBelow n p → {s t : ℕ} → Reaches p s t → Via (Depends p) n s t
reaches_via p n below (one {s = s} {t = t} d) = via_direct (Depends p) n s t d
reaches_via p n below (more {s = s} {t = m} {u = t} d r) = via_through (Depends p) n m (depends_below n p below s m d).1 s t (via_direct (Depends p) n s m d) (reaches_via p n below r)

-- chains are those by way of all variables
pub via_all : (p : Pol) (n : ℕ) → UsesBelow n p → (s t : ℕ) → Via (Depends p) n s t ↔ Reaches p s t
via_all p n below s t = (via_reaches p n s t, λ r. reaches_via p n below r)

-- ---- all of it is decidable
dec_tests : (x : Pred) (v : ℕ) → Dec (Tests x v)
dec_tests Id v = dec_never
dec_tests Drop v = dec_never
dec_tests (Field c n) v = dec_never
dec_tests (State s es a) v = cases_eq s v
dec_tests (Not' _ x) v = dec_tests x v
dec_tests (And' _ x _ y) v = dec_either (dec_tests x v) (dec_tests y v)
dec_tests (Or' _ x _ y) v = dec_either (dec_tests x v) (dec_tests y v)

dec_reads : (p : Pol) (v : ℕ) → Dec (Reads p v)
dec_reads (Filter x) v = dec_tests x v
dec_reads (Set c a) v = dec_never
dec_reads (Change u) v = dec_never
dec_reads (Par' _ p _ q) v = dec_either (dec_reads p v) (dec_reads q v)
dec_reads (Seq' _ p _ q) v = dec_either (dec_reads p v) (dec_reads q v)
dec_reads (If' x _ p _ q) v = dec_either (dec_tests x v) (dec_either (dec_reads p v) (dec_reads q v))
dec_reads (Atomic' _ p) v = dec_reads p v

pub dec_writes : (p : Pol) (v : ℕ) → Dec (Writes p v)
dec_writes (Filter x) v = dec_never
dec_writes (Set c a) v = dec_never
dec_writes (Change u) v = cases_eq u.var v
dec_writes (Par' _ p _ q) v = dec_either (dec_writes p v) (dec_writes q v)
dec_writes (Seq' _ p _ q) v = dec_either (dec_writes p v) (dec_writes q v)
dec_writes (If' x _ p _ q) v = dec_either (dec_writes p v) (dec_writes q v)
dec_writes (Atomic' _ p) v = dec_writes p v

dec_depends : (p : Pol) (s t : ℕ) → Dec (Depends p s t)
dec_depends (Filter x) s t = dec_never
dec_depends (Set c a) s t = dec_never
dec_depends (Change u) s t = dec_never
dec_depends (Par' _ p _ q) s t = dec_either (dec_depends p s t) (dec_depends q s t)
dec_depends (Seq' _ p _ q) s t = dec_either (dec_either (dec_depends p s t) (dec_depends q s t)) (dec_both (dec_reads p s) (dec_writes q t))
dec_depends (If' x _ p _ q) s t = dec_either (dec_either (dec_depends p s t) (dec_depends q s t)) (dec_both (dec_tests x s) (dec_either (dec_writes p t) (dec_writes q t)))
dec_depends (Atomic' _ p) s t = dec_both (dec_either (dec_reads p s) (dec_writes p s)) (dec_either (dec_reads p t) (dec_writes p t))

dec_via : (R : ℕ → ℕ → Type 0) → ((s t : ℕ) → Dec (R s t)) → (k s t : ℕ) → Dec (Via R k s t)
dec_via R d zero s t = d s t
dec_via R d (suc k) s t = dec_either (dec_via R d k s t) (dec_both (dec_via R d k s k) (dec_via R d k k t))

pub dec_reaches : (p : Pol) (n : ℕ) → UsesBelow n p → (s t : ℕ) → Dec (Reaches p s t)
dec_reaches p n below s t = dec_iff (via_all p n below s t) (dec_via (Depends p) (dec_depends p) n s t)

pub dec_tied : (p : Pol) (n : ℕ) → UsesBelow n p → (s t : ℕ) → Dec (Tied p s t)
dec_tied p n below s t = dec_either (cases_eq s t) (dec_both (dec_reaches p n below s t) (dec_reaches p n below t s))
