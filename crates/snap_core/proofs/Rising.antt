-- Packets that rise, as a set.
use Rattle.std.proofs.Common.{◌≡◌, ℕ, true, ◌&&◌, List, [], ◌∷◌, map, refl, sym, ap, subst, ◌∙◌, is_lt}
use lib.Dec.{T}
use Rattle.std.specs.List.{AllByRecursion, Contains, list_any, dedup}
use Rattle.std.specs.List.Sorted.{IsPermutation, IsSorted, IsStrictlySortedBy}
use Rattle.std.specs.Ordering.{eq_by_cmp}
use Rattle.std.specs.Cmp.Lexicographic.{bytes_decides, nat_list_cmp_total}
use Rattle.std.specs.FinMap.{contains_key-keys, entries-from_sorted}
use Rattle.std.specs.FinMap.Entries.{below_all}
use Rattle.std.specs.declared.cmp.Ordering.TheVariants.{Less}
use Rattle.std.proofs.lemmas.Cmp.{eq_by_cmp_equiv}
use Rattle.std.proofs.lemmas.List.Kept.{Contains-dedup, Contains-from_dedup, IsStrictlySortedBy-dedup}
use Rattle.std.proofs.lemmas.List.Sorted.{Contains-permutation, IsPermutation-sym}
use Rattle.std.proofs.lemmas.Map.Text.{is_eq-slice_cmp}
use Rattle.std.proofs.lemmas.Map.Views.{Contains-from_any, list_any-from_Contains}
use Rattle.snap_core.specs.Packets.{packet_cmp, marked, IsRising, set_of, listed, no_packets, with_packets}
use Rattle.snap_core.proofs.PacketSets.{same_packets, contains-listed}
use Rattle.snap_core.proofs.Truths.{both_or_neither}

keys-marked : (ks : List (List ℕ)) → map (λ e. e.0) (marked ks) ≡ ks
keys-marked [] = refl
keys-marked (k ∷ ks) = ap (λ l. k ∷ l) (keys-marked ks)

pub listed-set_of : (ks : List (List ℕ)) → IsRising ks → listed (set_of ks) ≡ ks
listed-set_of ks rising = ap (λ es. map (λ e. e.0) es) (entries-from_sorted packet_cmp (marked ks) (subst T (sym rising) tt)) ∙ keys-marked ks

below-marked : (k : List ℕ) (ks : List (List ℕ)) → AllByRecursion (λ x. packet_cmp k x ≡ Less) ks → below_all packet_cmp k (marked ks) ≡ true
below-marked k [] h = refl
below-marked k (x ∷ xs) h = λ i. is_lt (h.0 i) && below-marked k xs h.1 i

IsRising-sorted : (ks : List (List ℕ)) → IsStrictlySortedBy packet_cmp ks → IsRising ks
unfolding IsStrictlySortedBy
IsRising-sorted [] h = refl
IsRising-sorted (k ∷ ks) h = λ i. below-marked k ks h.0 i && IsRising-sorted ks h.1 i

-- packets that rise make the set of those in which the same ones are found
pub set_of-same : (ks xs : List (List ℕ)) → IsRising ks → ((q : List ℕ) → list_any (eq_by_cmp packet_cmp q) ks ≡ list_any (eq_by_cmp packet_cmp q) xs) → set_of ks ≡ with_packets no_packets xs
set_of-same ks xs rising same = same_packets _ _ (λ q.
    contains_key-keys (set_of ks) q
    ∙ ap (list_any (eq_by_cmp packet_cmp q)) (listed-set_of ks rising)
    ∙ same q
    ∙ sym (contains-listed xs q))

-- ---- a list that was sorted, each packet once
exact : (x y : List ℕ) → eq_by_cmp packet_cmp x y ≡ true → x ≡ y
exact x y h = (bytes_decides x y).0 (sym (is_eq-slice_cmp x y) ∙ h)

any-same : (ks xs : List (List ℕ)) → ((k : List ℕ) → Contains ks k → Contains xs k) → ((k : List ℕ) → Contains xs k → Contains ks k) → (q : List ℕ) → list_any (eq_by_cmp packet_cmp q) ks ≡ list_any (eq_by_cmp packet_cmp q) xs
any-same ks xs here there q =
    let equiv = eq_by_cmp_equiv nat_list_cmp_total in
    both_or_neither _ _
    (λ h. list_any-from_Contains equiv q xs (here q (Contains-from_any exact q ks h)))
    (λ h. list_any-from_Contains equiv q ks (there q (Contains-from_any exact q xs h)))

pub IsRising-dedup : (ks sorted : List (List ℕ)) → ks ≡ dedup (eq_by_cmp packet_cmp) sorted → IsSorted packet_cmp sorted → IsRising ks
IsRising-dedup ks sorted kept order =
    IsRising-sorted ks (subst (λ (l : List (List ℕ)). IsStrictlySortedBy packet_cmp l) (sym kept) (IsStrictlySortedBy-dedup nat_list_cmp_total (λ x y. refl) sorted order))

pub set_of-dedup : (ks sorted : List (List ℕ)) → ks ≡ dedup (eq_by_cmp packet_cmp) sorted → IsSorted packet_cmp sorted → set_of ks ≡ with_packets no_packets sorted
set_of-dedup ks sorted kept order =
    set_of-same ks sorted (IsRising-dedup ks sorted kept order) (any-same ks sorted
    (λ k here. Contains-from_dedup (eq_by_cmp packet_cmp) sorted k (subst (λ (l : List (List ℕ)). Contains l k) kept here))
    (λ k there. subst (λ (l : List (List ℕ)). Contains l k) (sym kept) (Contains-dedup (eq_by_cmp_equiv nat_list_cmp_total) exact sorted k there)))

-- packets in another order make the same set
pub with_packets-moved : (xs ys : List (List ℕ)) → IsPermutation xs ys → with_packets no_packets ys ≡ with_packets no_packets xs
with_packets-moved xs ys moved = same_packets _ _ (λ q.
    contains-listed ys q
    ∙ any-same ys xs (λ k here. Contains-permutation ys xs k (IsPermutation-sym xs ys moved) here) (λ k there. Contains-permutation xs ys k moved there) q
    ∙ sym (contains-listed xs q))
