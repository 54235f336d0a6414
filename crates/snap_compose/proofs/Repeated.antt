-- A second part on the set of packets that outs give, and out by out.
use Rattle.std.proofs.Common.{◌≡◌, ◌≢◌, ◌⊎◌, inl, inr, ℕ, List, [], ◌∷◌, Option, Some, refl, sym, ap, ◌∙◌, arith, get_or}
use Rattle.std.specs.Prelude.{map}
use Rattle.std.specs.List.{All}
use Rattle.std.specs.FinMap.Entries.{by_order}
use Rattle.std.specs.declared.cmp.Ordering.{Ordering}
use Rattle.std.specs.declared.cmp.Ordering.TheVariants.{Less, Equal, Greater}
use Rattle.std.proofs.lemmas.Map.Lookups.{exact_bytes}
use Rattle.std.proofs.lemmas.List.Elements.{All-nil, All-tail}
use Rattle.snap_core.specs.declared.policy.Atom.{Atom}
use Rattle.snap_core.specs.Arrays.{Arrays}
use Rattle.snap_core.specs.Packets.{PacketSet, packet_cmp, listed, set_of, IsRising}
use Rattle.snap_core.specs.Tests.{after_out, results_from, results}
use Rattle.snap_core.specs.Meaning.{Meaning, beside, all_together}
use Rattle.snap_core.proofs.Rising.{listed-set_of}
use Rattle.snap_compose.proofs.Inserted.{inserted, All-inserted, set_of-none, rising_inserted, set_of-inserted}
use Rattle.snap_compose.specs.Sequence.{AreDifferent}
use Rattle.snap_compose.specs.Spread.{besides, nothing}
use Rattle.snap_compose.proofs.Folding.{besides_front, all_together-is}
use Rattle.snap_compose.proofs.Twice.{IsIdle, beside_twice}

abbrev pub IsNew : List ℕ → List (List ℕ) → Type 0
IsNew k ks = All (λ x. k ≢ x) ks

-- the packet isn't there, or what comes of it may be taken twice
abbrev IsOnce : (List ℕ → Option Meaning) → List ℕ → List (List ℕ) → Type 0
IsOnce f k ks = IsNew k ks ⊎ IsIdle (f k)

once_more : (f : List ℕ → Option Meaning) (k x : List ℕ) (xs : List (List ℕ)) → IsOnce f k (x ∷ xs) → IsOnce f k xs
once_more f k x xs (inl new) = inl (All-tail (λ y. k ≢ y) x xs new)
once_more f k x xs (inr idle) = inr idle

besides_inserted : (f : List ℕ → Option Meaning) (a : Option Meaning) (k : List ℕ) (ks : List (List ℕ)) → IsOnce f k ks → besides a (map f (inserted k ks)) ≡ beside (besides a (map f ks)) (f k)
besides_inserted f a k [] once = refl
besides_inserted f a k (x ∷ xs) once = by (packet_cmp k x) refl (besides_inserted f (beside a (f x)) k xs (once_more f k x xs once))
  where
    again : k ≡ x → IsOnce f k (x ∷ xs) → besides (beside a (f x)) (map f xs) ≡ beside (besides (beside a (f x)) (map f xs)) (f k)
    again e (inl new) = absurd (new 0 x (omega arith) e)
    again e (inr idle) =
        ap (λ b. besides b (map f xs)) (ap (beside a) (ap f (sym e)) ∙ sym (beside_twice a (f k) idle) ∙ ap (λ o. beside (beside a o) (f k)) (ap f e))
        ∙ besides_front (beside a (f x)) (f k) (map f xs)

    by : (o : Ordering) → packet_cmp k x ≡ o → besides (beside a (f x)) (map f (inserted k xs)) ≡ beside (besides (beside a (f x)) (map f xs)) (f k)
        → besides a (map f (by_order o (k ∷ x ∷ xs) (x ∷ xs) (x ∷ inserted k xs))) ≡ beside (besides (beside a (f x)) (map f xs)) (f k)
    by Less e h = besides_front a (f k) (f x ∷ map f xs)
    by Equal e h = again (exact_bytes k x e) once
    by Greater e h = h

-- the packets of the outs are new one after the other, or may be taken twice
abbrev AreOnce : (List ℕ → Option Meaning) → List ℕ → List (List (ℕ × Atom)) → List (List ℕ) → Type 0
AreOnce f k [] ks = Unit {0}
AreOnce f k (o ∷ os) ks = IsOnce f (after_out o k) ks × AreOnce f k os (inserted (after_out o k) ks)

besides_results : (f : List ℕ → Option Meaning) (a : Option Meaning) (k : List ℕ) (os : List (List (ℕ × Atom))) (ks : List (List ℕ)) → IsRising ks → AreOnce f k os ks
    → besides a (map f (listed (results_from (set_of ks) os k))) ≡ besides (besides a (map f ks)) (map (λ o. f (after_out o k)) os)
besides_results f a k [] ks r once = ap (λ l. besides a (map f l)) (listed-set_of ks r)
besides_results f a k (o ∷ os) ks r once =
    let p : List ℕ = after_out o k in
    ap (λ (s : PacketSet). besides a (map f (listed (results_from s os k)))) (sym (set_of-inserted p ks (inserted p ks) r refl))
    ∙ besides_results f a k os (inserted p ks) (rising_inserted p ks (inserted p ks) r refl) once.1
    ∙ ap (λ b. besides b (map (λ o. f (after_out o k)) os)) (besides_inserted f a p ks once.0)

results_once : (f : List ℕ → Option Meaning) (m : Arrays) (k : List ℕ) (os : List (List (ℕ × Atom))) → AreOnce f k os []
    → all_together m (map f (listed (results os k))) ≡ besides (Some (nothing m)) (map (λ o. f (after_out o k)) os)
results_once f m k os once =
    all_together-is m (map f (listed (results os k)))
    ∙ ap (λ (s : PacketSet). besides (Some (nothing m)) (map f (listed (results_from s os k)))) (sym set_of-none)
    ∙ besides_results f (Some (nothing m)) k os [] refl once

-- ---- packets that differ
abbrev AllNew : List (List ℕ) → List (List ℕ) → Type 0
AllNew ps ks = All (λ p. IsNew p ks) ps

all_new_inserted : (k : List ℕ) (ps ks : List (List ℕ)) → IsNew k ps → AllNew ps ks → AllNew ps (inserted k ks)
all_new_inserted k ps ks d new = λ i e l. All-inserted (λ x. get_or ps i e ≢ x) k ks (λ same. d i e l (sym same)) (new i e l)

different_once : (f : List ℕ → Option Meaning) (k : List ℕ) (os : List (List (ℕ × Atom))) (ks : List (List ℕ)) → AreDifferent (map (λ o. after_out o k) os) → AllNew (map (λ o. after_out o k) os) ks → AreOnce f k os ks
different_once f k [] ks d new = tt
different_once f k (o ∷ os) ks d new =
    let p : List ℕ = after_out o k in let ps : List (List ℕ) = map (λ x. after_out x k) os in
    (inl (new 0 p (omega arith)), different_once f k os (inserted p ks) d.1 (all_new_inserted p ps ks d.0 (All-tail (λ q. IsNew q ks) p ps new)))

-- the sequence rule, packet by packet of a settled leaf
pub together_results : (f : List ℕ → Option Meaning) (m : Arrays) (k : List ℕ) (os : List (List (ℕ × Atom))) → AreDifferent (map (λ o. after_out o k) os)
    → all_together m (map f (listed (results os k))) ≡ besides (Some (nothing m)) (map (λ o. f (after_out o k)) os)
together_results f m k os d = results_once f m k os (different_once f k os [] d (λ i e l. All-nil (λ x. get_or (map (λ o. after_out o k) os) i e ≢ x)))

-- ---- outcomes that write nothing
idle_once : (f : List ℕ → Option Meaning) (k : List ℕ) (os : List (List (ℕ × Atom))) (ks : List (List ℕ)) → ((q : List ℕ) → IsIdle (f q)) → AreOnce f k os ks
idle_once f k [] ks idle = tt
idle_once f k (o ∷ os) ks idle = (inr (idle (after_out o k)), idle_once f k os (inserted (after_out o k) ks) idle)

-- the sequence rule, out by out, where the second part writes nothing
pub together_idle : (f : List ℕ → Option Meaning) (m : Arrays) (k : List ℕ) (os : List (List (ℕ × Atom))) → ((q : List ℕ) → IsIdle (f q))
    → all_together m (map f (listed (results os k))) ≡ besides (Some (nothing m)) (map (λ o. f (after_out o k)) os)
together_idle f m k os idle = results_once f m k os (idle_once f k os [] idle)
