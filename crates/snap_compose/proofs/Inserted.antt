-- A packet in its place among packets that rise.
use Rattle.std.proofs.Common.{◌≡◌, ℕ, List, [], ◌∷◌, refl, sym, ap, subst, ◌∙◌, arith}
use lib.Dec.{T}
use Rattle.std.specs.Cmp.Lexicographic.{nat_list_cmp_total}
use Rattle.std.specs.FinMap.{is_sorted, same_entries_map, entries-from_sorted, entries-insert, get-from_sorted, get-empty, same_map, slice_cmp-IsAntisymmetric, nat_cmp-IsAntisymmetric}
use Rattle.std.specs.FinMap.Entries.{by_order, put, is_sorted-put}
use Rattle.std.specs.declared.cmp.Ordering.TheVariants.{Less, Equal, Greater}
use Rattle.std.specs.List.{All}
use Rattle.std.proofs.lemmas.List.Elements.{All-cons, All-push, All-tail}
use Rattle.std.specs.declared.cmp.Ordering.{Ordering}
use Rattle.snap_core.specs.Packets.{packet_cmp, marked, IsRising, set_of, no_packets, with_packet}
use Rattle.snap_core.proofs.Truths.{true-from_T}

-- packets in rising order with k in its place, unless it is there
abbrev pub inserted : List ℕ → List (List ℕ) → List (List ℕ)
inserted k [] = k ∷ []
inserted k (x ∷ xs) = by_order (packet_cmp k x) (k ∷ x ∷ xs) (x ∷ xs) (x ∷ inserted k xs)

-- what holds of it and of the others holds of each
pub All-inserted : (P : List ℕ → Type 0) (k : List ℕ) (ks : List (List ℕ)) → P k → All P ks → All P (inserted k ks)
All-inserted P k [] new old = All-push P [] k old new
All-inserted P k (x ∷ xs) new old = by (packet_cmp k x) (All-inserted P k xs new (All-tail P x xs old))
  where
    by : (o : Ordering) → All P (inserted k xs) → All P (by_order o (k ∷ x ∷ xs) (x ∷ xs) (x ∷ inserted k xs))
    by Less h = All-cons P k (x ∷ xs) new old
    by Equal h = old
    by Greater h = All-cons P x (inserted k xs) (old 0 x (omega arith)) h

pub set_of-none : set_of [] ≡ no_packets
set_of-none = same_map nat_list_cmp_total (slice_cmp-IsAntisymmetric nat_cmp-IsAntisymmetric) _ _ (λ q. get-from_sorted packet_cmp [] q tt ∙ sym (get-empty packet_cmp q))

marked-inserted : (k : List ℕ) (xs : List (List ℕ)) → marked (inserted k xs) ≡ put packet_cmp k tt (marked xs)
marked-inserted k [] = refl
marked-inserted k (x ∷ xs) =
    elim (packet_cmp k x) as (λ o. marked (by_order o (k ∷ x ∷ xs) (x ∷ xs) (x ∷ inserted k xs)) ≡ by_order o ((k, tt) ∷ (x, tt) ∷ marked xs) ((x, tt) ∷ marked xs) ((x, tt) ∷ put packet_cmp k tt (marked xs))) [
      | Less ↦ refl
      | Equal ↦ refl
      | Greater ↦ ap (λ es. (x, tt) ∷ es) (marked-inserted k xs)
    ]

-- packets still rise with one more in its place, and make the set with one more
pub rising_inserted : (k : List ℕ) (xs ys : List (List ℕ)) → IsRising xs → ys ≡ inserted k xs → IsRising ys
rising_inserted k xs ys rising e =
    ap (is_sorted packet_cmp) (ap marked e ∙ marked-inserted k xs)
    ∙ true-from_T _ (is_sorted-put packet_cmp nat_list_cmp_total k tt (marked xs) (subst T (sym rising) tt))

pub set_of-inserted : (k : List ℕ) (xs ys : List (List ℕ)) → IsRising xs → ys ≡ inserted k xs → set_of ys ≡ with_packet (set_of xs) k
set_of-inserted k xs ys rising e =
    same_entries_map _ _
    (entries-from_sorted packet_cmp (marked ys) (subst T (sym (rising_inserted k xs ys rising e)) tt)
    ∙ ap marked e ∙ marked-inserted k xs
    ∙ ap (put packet_cmp k tt) (sym (entries-from_sorted packet_cmp (marked xs) (subst T (sym rising) tt)))
    ∙ sym (entries-insert nat_list_cmp_total (set_of xs) k tt))
