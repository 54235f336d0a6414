-- Without the parts that change nothing an out rises still.
use Rattle.std.proofs.Common.{◌≡◌, ℕ, zero, suc, ◌+◌, ◌<◌, Bool, true, false, cond, not, [], ◌∷◌, map, subst, arith}
use Rattle.std.specs.Prelude.{slice_index}
use Rattle.snap_core.specs.Tests.{IsRisingOut}
use Rattle.snap_rows.specs.Entries.{Parts}
use Rattle.snap_faithful.specs.Leaves.{changes, is_itself}

abbrev pub Above : ℕ → Parts → Type 0
Above c [] = Unit {0}
Above c (p ∷ ps) = c < p.0

abbrev pub Rising : Parts → Type 0
Rising [] = Unit {0}
Rising (p ∷ ps) = Above p.0 ps × Rising ps

pub rising_from : (o : Parts) → IsRisingOut o → Rising o
rising_from [] h = tt
rising_from (p ∷ []) h = (tt, tt)
rising_from (p ∷ q ∷ ps) h =
    (h 0 (omega arith), rising_from (q ∷ ps) (λ k l. subst (λ j. slice_index (map (λ p. p.0) (p ∷ q ∷ ps)) (suc k) < slice_index (map (λ p. p.0) (p ∷ q ∷ ps)) j) (next k) (h (suc k) (omega (arith, l)))))
  where
    next : (k : ℕ) → suc k + 1 ≡ suc (k + 1)
    next k = omega arith

from_rising : (o : Parts) → Rising o → IsRisingOut o
from_rising [] h k l = absurd (omega (arith, l))
from_rising (p ∷ []) h k l = absurd (omega (arith, l))
from_rising (p ∷ q ∷ ps) h zero l = h.0
from_rising (p ∷ q ∷ ps) h (suc k) l =
    subst (λ j. slice_index (map (λ p. p.0) (p ∷ q ∷ ps)) (suc k) < slice_index (map (λ p. p.0) (p ∷ q ∷ ps)) j) next (from_rising (q ∷ ps) h.1 k (omega (arith, l)))
  where
    next : suc (k + 1) ≡ suc k + 1
    next = omega arith

above_less : (c d : ℕ) (o : Parts) → c < d → Above d o → Above c o
above_less c d [] l h = tt
above_less c d (p ∷ ps) l h = omega (arith, l, h)

above_kept : (c : ℕ) (o : Parts) → Above c o → Rising o → Above c (changes o)
above_kept c [] a h = tt
above_kept c (p ∷ ps) a h = by (not (is_itself p)) (above_kept c ps (above_less c p.0 ps a h.0) h.1)
  where
    by : (b : Bool) → Above c (changes ps) → Above c (cond b (p ∷ changes ps) (changes ps))
    by true r = a
    by false r = r

rising_kept : (o : Parts) → Rising o → Rising (changes o)
rising_kept [] h = tt
rising_kept (p ∷ ps) h = by (not (is_itself p)) (rising_kept ps h.1) (above_kept p.0 ps h.0 h.1)
  where
    by : (b : Bool) → Rising (changes ps) → Above p.0 (changes ps) → Rising (cond b (p ∷ changes ps) (changes ps))
    by true r a = (a, r)
    by false r a = r

pub changes_rise : (o : Parts) → IsRisingOut o → IsRisingOut (changes o)
changes_rise o h = from_rising (changes o) (rising_kept o (rising_from o h))
