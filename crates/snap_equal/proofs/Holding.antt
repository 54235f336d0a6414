-- What a place holds from update to update.
use Rattle.std.proofs.Common.{◌≡◌, ℕ, ◌-◌, ◌^◌, ◌<◌, Bool, true, false, List, [], ◌∷◌, ◌++◌, length, take, ◌+◌, get_or, refl, sym, ap, ◌∙◌, subst, arith}
use Rattle.std.specs.Prelude.{◌==◌, Result, MatchResult}
use Rattle.std.proofs.lemmas.List.{take_more}
use Rattle.snap_core.specs.declared.place.Place.{Place}
use Rattle.snap_core.specs.declared.policy.Atom.{Atom}
use Rattle.snap_core.specs.declared.policy.Op.{Op}
use Rattle.snap_core.specs.declared.policy.Op.TheVariants.{Put, Add}
use Rattle.snap_core.specs.declared.policy.Term.{Term}
use Rattle.snap_core.specs.declared.policy.Term.TheVariants.{Num, Plus}
use Rattle.snap_core.specs.declared.policy.Test.TheVariants.{State}
use Rattle.snap_core.specs.declared.policy.Update.{Update}
use Rattle.snap_core.specs.Arrays.{Arrays, same_place, place_at, number_after, update, updates}
use Rattle.snap_core.specs.Fits.{OpFits}
use Rattle.snap_core.specs.Tests.{passes, term_value}
use Rattle.snap_context.specs.Classes.{wrap, shift}
use Rattle.snap_core.specs.Ranges.{TermInRange}
use Rattle.snap_context.specs.View.{View}
use Rattle.snap_context.proofs.Algebra.{term_value-shift}
use Rattle.snap_core.proofs.Places.{same_place-exact}
use Rattle.snap_core.proofs.Updates.{updates-append}
use Rattle.snap_context.proofs.Wrap.{wrap_assoc}
use Rattle.snap_compose.specs.PulledBack.{term_of}
use Rattle.snap_compose.proofs.Splitting.{hit, missed}
use Rattle.snap_compose.proofs.Values.{shift-fits, term_of-fits, term_of-value}
use Rattle.snap_equal.specs.declared.held.PlaceValue.{PlaceValue}
use Rattle.snap_equal.specs.declared.held.PlaceValue.TheVariants.{Is, Old}
use Rattle.snap_equal.specs.declared.stop.Stop.{Stop}
use Rattle.snap_equal.specs.Held.{held_value, HeldFits, more, changed, IsHeld}
use Rattle.snap_equal.specs.Told.{IsModel, On, Decides, IsStop}
use Rattle.snap_equal.proofs.Telling.{result_as}
use Rattle.snap_equal.proofs.Wrapping.{moved, moved_back}

-- ---- the old number and more against a term
term_small : (t : Term) (k : List ℕ) → TermInRange t → term_value t k < 2 ^ 64
term_small (Num n) k h = h
term_small (Plus c p) k h = omega arith

shifted_back : (t : Term) (n : ℕ) (k : List ℕ) → n < 2 ^ 64 → term_value (shift t (wrap 0 (2 ^ 64 - n))) k ≡ wrap (term_value t k) (2 ^ 64 - n)
shifted_back t n k h = term_value-shift k t (wrap 0 (2 ^ 64 - n)) ∙ omega arith

pub held_as : (v : View) (arrays : ℕ) (r : Result Bool Stop) (s : ℕ) (ix : List Atom) (t : Term) (n : ℕ) → TermInRange t → n < 2 ^ 64
    → MatchResult r (Decides v (λ m k. passes (State s ix (shift t (wrap 0 (2 ^ 64 - n)))) m k ≡ true)) (IsStop v arrays) → MatchResult r (Decides v (λ m k. wrap (m (place_at s ix k)) n ≡ term_value t k)) (IsStop v arrays)
held_as v arrays r s ix t n rt rn h = result_as v arrays (λ m k. passes (State s ix (shift t (wrap 0 (2 ^ 64 - n)))) m k ≡ true) (λ m k. wrap (m (place_at s ix k)) n ≡ term_value t k)
    (λ m k i e. sym (moved (m (place_at s ix k)) (term_value t k) n (term_small t k rt) rn (subst (λ x. (m (place_at s ix k) == x) ≡ true) (shifted_back t n k rn) e)))
    (λ m k i e. subst (λ x. (m (place_at s ix k) == x) ≡ true) (sym (shifted_back t n k rn)) (moved_back (m (place_at s ix k)) (term_value t k) n (i.store (place_at s ix k)) rn (sym e))) r h

-- ---- one update more
pub updates_more : (us : List Update) (i : ℕ) (u : Update) (m : Arrays) (k : List ℕ) → i < length us → u ≡ get_or us i u → updates m (take (i + 1) us) k ≡ update (updates m (take i us) k) u k
updates_more us i u m k l is =
    ap (λ us. updates m us k) (take_more us i u l ∙ ap (λ x. take i us ++ x ∷ []) (sym is)) ∙ updates-append (take i us) (u ∷ []) m k

pub not_same : (p q : Place) → (p ≡ q → ⊥) → (b : Bool) → same_place p q ≡ b → same_place p q ≡ false
not_same p q h true e = absurd (h (same_place-exact p q e))
not_same p q h false e = e

more-value : (n : ℕ) (h : PlaceValue) (x : ℕ) (k : List ℕ) → held_value (more n h) x k ≡ wrap (held_value h x k) n
more-value n (Is t) x k = term_value-shift k t n
more-value n (Old y) x k = sym (wrap_assoc x y n)

changed-value : (comps : ℕ) (h : PlaceValue) (op : Op) (x : ℕ) (k : List ℕ) → OpFits comps op → (v : View) (m : Arrays) → length v.classes ≡ comps → IsModel v m k → held_value (changed h op) x k ≡ number_after op (held_value h x k) k
changed-value comps h (Put a) x k f v m e i = term_of-value comps a k (record { long = i.packet.long ∙ e; numbers = i.packet.numbers }) f
changed-value comps h (Add n) x k f v m e i = more-value n h x k

more-fits : (comps : ℕ) (n : ℕ) (h : PlaceValue) → HeldFits comps h → HeldFits comps (more n h)
more-fits comps n (Is t) f = shift-fits comps t n f
more-fits comps n (Old x) f = tt

changed-fits : (comps : ℕ) (h : PlaceValue) (op : Op) → OpFits comps op → HeldFits comps h → HeldFits comps (changed h op)
changed-fits comps h (Put a) o f = term_of-fits comps a o
changed-fits comps h (Add n) o f = more-fits comps n h f

module _ (v : View) (us : List Update) (u : Update) (s : ℕ) (ix : List Atom) (h : PlaceValue) (is : IsHeld v us s ix h) where
  pub held_hit : OpFits (length v.classes) u.op → On v (λ m k. place_at u.var u.index k ≡ place_at s ix k) → IsHeld v (us ++ u ∷ []) s ix (changed h u.op)
  held_hit o at = record {
    value = λ m k i.
        ap (λ (n : Arrays). n (place_at s ix k)) (updates-append us (u ∷ []) m k)
        ∙ hit u (updates m us k) k (place_at s ix k) (at m k i)
        ∙ ap (λ x. number_after u.op x k) (is.value m k i)
        ∙ sym (changed-value (length v.classes) h u.op (m (place_at s ix k)) k o v m refl i);
    fits = changed-fits (length v.classes) h u.op o is.fits;
  }

  pub held_missed : On v (λ m k. place_at u.var u.index k ≡ place_at s ix k → ⊥) → IsHeld v (us ++ u ∷ []) s ix h
  held_missed off = record {
    value = λ m k i.
        ap (λ (n : Arrays). n (place_at s ix k)) (updates-append us (u ∷ []) m k)
        ∙ missed u (updates m us k) k (place_at s ix k) (not_same (place_at u.var u.index k) (place_at s ix k) (off m k i) (same_place (place_at u.var u.index k) (place_at s ix k)) refl)
        ∙ is.value m k i;
    fits = is.fits;
  }

-- ---- updates that tell what is held, whatever was
module _ (v : View) (us : List Update) (u : Update) (s : ℕ) (ix : List Atom) where
  pub held_put : (a : Atom) → u.op ≡ Put a → OpFits (length v.classes) (Put a) → On v (λ m k. place_at u.var u.index k ≡ place_at s ix k) → IsHeld v (us ++ u ∷ []) s ix (Is (term_of a))
  held_put a e o at = record {
    value = λ m k i.
        ap (λ (n : Arrays). n (place_at s ix k)) (updates-append us (u ∷ []) m k)
        ∙ hit u (updates m us k) k (place_at s ix k) (at m k i)
        ∙ ap (λ op. number_after op (updates m us k (place_at s ix k)) k) e
        ∙ sym (term_of-value (length v.classes) a k i.packet o);
    fits = term_of-fits (length v.classes) a o;
  }

  module _ (h : PlaceValue) (is : IsHeld v us s ix h) (o : OpFits (length v.classes) u.op) (e : changed h u.op ≡ h) where
    same_value : (m : Arrays) (k : List ℕ) → IsModel v m k → (b : Bool) → same_place (place_at u.var u.index k) (place_at s ix k) ≡ b → update (updates m us k) u k (place_at s ix k) ≡ held_value h (m (place_at s ix k)) k
    same_value m k i true at =
        hit u (updates m us k) k (place_at s ix k) (same_place-exact (place_at u.var u.index k) (place_at s ix k) at)
        ∙ ap (λ x. number_after u.op x k) (is.value m k i)
        ∙ sym (changed-value (length v.classes) h u.op (m (place_at s ix k)) k o v m refl i)
        ∙ ap (λ g. held_value g (m (place_at s ix k)) k) e
    same_value m k i false off = missed u (updates m us k) k (place_at s ix k) off ∙ is.value m k i

    -- one that leaves what is held as it is
    pub held_same : IsHeld v (us ++ u ∷ []) s ix h
    held_same = record {
      value = λ m k i. ap (λ (n : Arrays). n (place_at s ix k)) (updates-append us (u ∷ []) m k) ∙ same_value m k i (same_place (place_at u.var u.index k) (place_at s ix k)) refl;
      fits = is.fits;
    }
