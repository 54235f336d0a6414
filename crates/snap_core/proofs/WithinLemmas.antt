-- Outcomes within a run, one part after another.
use Rattle.std.proofs.Common.{◌≡◌, ℕ, Bool, true, false, cond, List, Option, Some, None, map, refl, sym, ap, subst, ◌∙◌, bit_or}
use Rattle.std.specs.Prelude.{option_and_then, option_map, unwrap_or}
use Rattle.std.specs.Int.Bits.{or_zero_r, or_zero_l}
use Rattle.snap_core.specs.declared.policy.Pol.{Pol}
use Rattle.snap_core.specs.declared.policy.Pred.{Pred}
use Rattle.snap_core.specs.declared.run.Logs.{Logs}
use Rattle.snap_core.specs.Arrays.{Arrays}
use Rattle.snap_core.specs.Packets.{listed}
use Rattle.snap_core.specs.Meaning.{Meaning, all_together, eval, logged, truth, vars_of}
use Rattle.snap_core.specs.Runs.{after_first, chosen, within}
use Rattle.snap_core.proofs.Together.{or_assoc}

abbrev pub logs_of : Meaning → Logs
logs_of o = record { reads = o.reads; writes = o.writes }

-- the logs with more variables
abbrev pub more : Logs → ℕ → ℕ → Logs
more l r w = record { reads = bit_or l.reads r; writes = bit_or l.writes w }

pub within-logged : (l : Logs) (r w : ℕ) (o : Option Meaning) → within l (option_map (logged r w) o) ≡ within (more l r w) o
within-logged l r w None = refl
within-logged l r w (Some o) = λ i. Some (record o { reads = or_assoc l.reads r o.reads i; writes = or_assoc l.writes w o.writes i })

pub within-read : (l : Logs) (r : ℕ) (o : Option Meaning) → within l (option_map (logged r 0) o) ≡ within (record { reads = bit_or l.reads r; writes = l.writes }) o
within-read l r o = within-logged l r 0 o ∙ (λ i. within (record { reads = bit_or l.reads r; writes = or_zero_r l.writes i }) o)

pub logged-nothing : (o : Option Meaning) → option_map (logged 0 0) o ≡ o
logged-nothing None = refl
logged-nothing (Some o) = λ i. Some (record o { reads = or_zero_l o.reads i; writes = or_zero_l o.writes i })

pub eval-cond : (t : Bool) (a b : Pol) (m : Arrays) (k : List ℕ) → cond t (eval a m k) (eval b m k) ≡ eval (cond t a b) m k
eval-cond true a b m k = refl
eval-cond false a b m k = refl

-- a choice is the branch that its test picks, once what the test reads is logged
pub within-chosen : (l n : Logs) (x : Pred) (a b p : Pol) (m : Arrays) (k : List ℕ) → p ≡ cond (truth x m k) a b → n.reads ≡ bit_or l.reads (vars_of x) → n.writes ≡ l.writes
    → within l (chosen x (eval a m k) (eval b m k) m k) ≡ within n (eval p m k)
within-chosen l n x a b p m k picked reads writes =
    ap (λ o. within l (option_map (logged (vars_of x) 0) o)) (eval-cond (truth x m k) a b m k ∙ ap (λ q. eval q m k) (sym picked))
    ∙ within-read l (vars_of x) (eval p m k)
    ∙ (λ i. within (record { reads = sym reads i; writes = sym writes i }) (eval p m k))

-- one part came to y within the logs, and the next goes on from there
module _ (q : Pol) (l : Logs) (y : Meaning) where
  abbrev next : Meaning → Option Meaning
  next o = all_together o.arrays (map (λ k. eval q o.arrays k) (listed o.packets))

  is_logged : (o : Meaning) → within l (Some o) ≡ Some y → logged l.reads l.writes o ≡ y
  is_logged o e = ap (λ x. unwrap_or x y) e

  pub turn-some : (z : Option Meaning) (x : Option Meaning) → within l x ≡ Some y → within (logs_of y) (next y) ≡ z → within l (option_and_then (after_first q) x) ≡ z
  turn-some z None e h = cc
  turn-some z (Some o) e h = within-logged l o.reads o.writes (next o) ∙ subst (λ o'. within (logs_of o') (next o') ≡ z) (sym (is_logged o e)) h

  pub turn-none : (x : Option Meaning) → within l x ≡ Some y → next y ≡ None → option_and_then (after_first q) x ≡ None
  turn-none None e h = refl
  turn-none (Some o) e h = ap (option_map (logged o.reads o.writes)) (subst (λ o'. next o' ≡ None) (sym (is_logged o e)) h)
