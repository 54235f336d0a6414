-- Tidied outs make the same packets.
use Rattle.std.proofs.Common.{◌≡◌, ℕ, zero, suc, ◌<◌, ◌≤◌, Bool, true, false, ◌||◌, cond, not, List, [], ◌∷◌, map, refl, sym, ap, ◌∙◌, arith}
use Rattle.std.specs.Prelude.{slice_index, slice_set, Contains}
use Rattle.std.specs.List.{All, list_any}
use Rattle.std.specs.Ordering.{eq_by_cmp}
use Rattle.std.specs.FinMap.{contains_key}
use Rattle.std.proofs.lemmas.Bool.{eqb-true, false≢true}
use Rattle.std.proofs.lemmas.List.Elements.{All-head, All-tail}
use Rattle.std.proofs.lemmas.List.Folds.{Any-from_list_any, list_any-from_Any}
use Rattle.std.proofs.Math.Bool.{or-false}
use Rattle.snap_core.specs.declared.policy.Atom.{Atom}
use Rattle.snap_core.specs.declared.policy.Atom.TheVariants.{Num, Comp}
use Rattle.snap_core.specs.Arrays.{value_of}
use Rattle.snap_core.specs.Packets.{PacketSet, packet_cmp, no_packets, with_packet}
use Rattle.snap_core.specs.Tests.{IsRisingOut, with_parts, after_out, results_from, results}
use Rattle.snap_core.proofs.PacketSets.{same_packets, contains-with_packet}
use Rattle.snap_core.proofs.Truths.{or-or_swap, both_or_neither}
use Rattle.snap_rows.specs.Entries.{Parts}
use Rattle.snap_faithful.specs.Leaves.{is_itself, changes, AreTidyOuts}
use Rattle.snap_faithful.proofs.Changing.{Above, Rising, rising_from}

set_own : (r : List ℕ) (c : ℕ) → slice_set r c (slice_index r c) ≡ r
set_own [] c = refl
set_own (x ∷ r) zero = refl
set_own (x ∷ r) (suc c) = ap (λ l. x ∷ l) (set_own r c)

set_past : (r : List ℕ) (c v i : ℕ) → c < i → slice_index (slice_set r c v) i ≡ slice_index r i
set_past [] c v i l = refl
set_past (x ∷ r) zero v zero l = absurd (omega (arith, l))
set_past (x ∷ r) zero v (suc i) l = refl
set_past (x ∷ r) (suc c) v zero l = absurd (omega (arith, l))
set_past (x ∷ r) (suc c) v (suc i) l = set_past r c v i (omega (arith, l))

itself_sets : (p : ℕ × Atom) (r k : List ℕ) → is_itself p ≡ true → slice_index r p.0 ≡ slice_index k p.0 → slice_set r p.0 (value_of p.1 k) ≡ r
itself_sets (c, Num n) r k e h = absurd (false≢true e)
itself_sets (c, Comp d) r k e h = ap (λ x. slice_set r c (slice_index k x)) (eqb-true d c e) ∙ ap (λ v. slice_set r c v) (sym h) ∙ set_own r c

abbrev StartsFrom : ℕ → Parts → Type 0
StartsFrom c [] = Unit {0}
StartsFrom c (p ∷ ps) = c ≤ p.0

starts : (c : ℕ) (o : Parts) → Above c o → StartsFrom (suc c) o
starts c [] a = tt
starts c (p ∷ ps) a = omega (arith, a)

starts_zero : (o : Parts) → StartsFrom 0 o
starts_zero [] = tt
starts_zero (p ∷ ps) = omega arith

parts_same : (o : Parts) (r k : List ℕ) (c : ℕ) → StartsFrom c o → Rising o → ((i : ℕ) → c ≤ i → slice_index r i ≡ slice_index k i) → with_parts (changes o) k r ≡ with_parts o k r
parts_same [] r k c s h agree = refl
parts_same (p ∷ ps) r k c s h agree =
    by (is_itself p) refl
    (parts_same ps r k (suc p.0) (starts p.0 ps h.0) h.1 (λ i l. agree i (omega (arith, s, l))))
    (parts_same ps (slice_set r p.0 (value_of p.1 k)) k (suc p.0) (starts p.0 ps h.0) h.1 (λ i l. set_past r p.0 (value_of p.1 k) i (omega (arith, l)) ∙ agree i (omega (arith, s, l))))
  where
    by : (b : Bool) → is_itself p ≡ b → with_parts (changes ps) k r ≡ with_parts ps k r → with_parts (changes ps) k (slice_set r p.0 (value_of p.1 k)) ≡ with_parts ps k (slice_set r p.0 (value_of p.1 k))
        → with_parts (cond (not b) (p ∷ changes ps) (changes ps)) k r ≡ with_parts ps k (slice_set r p.0 (value_of p.1 k))
    by true e same other = same ∙ ap (with_parts ps k) (sym (itself_sets p r k e (agree p.0 s)))
    by false e same other = other

after_changes : (o : Parts) (k : List ℕ) → IsRisingOut o → after_out (changes o) k ≡ after_out o k
after_changes o k h = parts_same o k k 0 (starts_zero o) (rising_from o h) (λ i l. refl)

-- ---- the packets that outs make
found : (p : Parts → Bool) (xs ys : List Parts) → ((o : Parts) → Contains xs o → Contains ys o) → list_any p xs ≡ true → list_any p ys ≡ true
found p xs ys within h = let a = Any-from_list_any p xs h in let c = within a.1 (a.0, a.2, a.3) in list_any-from_Any p ys (c.0, a.1, c.1, c.2, a.4)

module _ (k q : List ℕ) where
  abbrev makes : Parts → Bool
  makes o = eq_by_cmp packet_cmp q (after_out o k)

  contains-results : (s : PacketSet) (os : List Parts) → contains_key (results_from s os k) q ≡ (contains_key s q || list_any makes os)
  contains-results s [] = sym (or-false (contains_key s q))
  contains-results s (o ∷ os) =
      contains-results (with_packet s (after_out o k)) os
      ∙ ap (λ b. b || list_any makes os) (contains-with_packet s (after_out o k) q)
      ∙ or-or_swap (makes o) (contains_key s q) (list_any makes os)

  makes-changes : (os : List Parts) → All IsRisingOut os → list_any makes (map changes os) ≡ list_any makes os
  makes-changes [] h = refl
  makes-changes (o ∷ os) h = λ i. eq_by_cmp packet_cmp q (after_changes o k (All-head IsRisingOut o os h) i) || makes-changes os (All-tail IsRisingOut o os h) i

pub same_results : (os rs : List Parts) (k : List ℕ) → All IsRisingOut os → AreTidyOuts os rs → results rs k ≡ results os k
same_results os rs k h tidy = same_packets _ _ (λ q.
    contains-results k q no_packets rs
    ∙ ap (λ b. contains_key no_packets q || b) (both_or_neither _ _ (found (makes k q) rs (map changes os) (λ o. (tidy.same o).0)) (found (makes k q) (map changes os) rs (λ o. (tidy.same o).1)) ∙ makes-changes k q os h)
    ∙ sym (contains-results k q no_packets os))
