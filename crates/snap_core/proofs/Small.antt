-- Numbers of 64 bits stay so.
use Rattle.std.proofs.Common.{◌≡◌, ℕ, ◌^◌, ◌<◌, Bool, true, false, cond, List, [], ◌∷◌, map, length, zero, suc, sym, subst, ◌∙◌, ⊎_elim, arith, lit<}
use Rattle.std.specs.Prelude.{IsTrue, slice_index, slice_set}
use Rattle.std.specs.List.{All, Contains}
use Rattle.std.specs.FinMap.{contains_key, contains_key-keys}
use Rattle.std.specs.Ordering.{eq_by_cmp}
use Rattle.std.specs.Cmp.Lexicographic.{bytes_decides, nat_list_cmp_total}
use Rattle.std.proofs.Math.ListN.{length-set}
use Rattle.std.proofs.lemmas.Bool.{both_ways, or_cases}
use Rattle.std.proofs.lemmas.Map.Text.{is_eq-slice_cmp}
use Rattle.std.proofs.lemmas.Cmp.{eq_by_cmp_equiv}
use Rattle.std.proofs.lemmas.List.Elements.{All-contains_itself, All-set, All-tail, All-weaker}
use Rattle.std.proofs.lemmas.Map.Views.{list_any-from_Contains}
use Rattle.snap_core.specs.declared.place.Place.{Place}
use Rattle.snap_core.specs.declared.policy.Atom.{Atom}
use Rattle.snap_core.specs.declared.policy.Atom.TheVariants.{Num, Comp}
use Rattle.snap_core.specs.declared.policy.Op.{Op}
use Rattle.snap_core.specs.declared.policy.Op.TheVariants.{Put, Add}
use Rattle.snap_core.specs.declared.policy.Update.{Update}
use Rattle.snap_core.specs.declared.policy.Pol.{Pol}
use Rattle.snap_core.specs.declared.policy.Pol.TheVariants.{Filter, Set, Change, Par', Seq', If', Atomic'}
use Rattle.snap_core.specs.Arrays.{Arrays, same_place, place_at, value_of, number_after, update, has}
use Rattle.snap_core.specs.Packets.{PacketSet, packet_cmp, no_packets, with_packet, union, listed}
use Rattle.snap_core.specs.Meaning.{Meaning, eval, truth, vars_of, merge, all_packets}
use Rattle.snap_core.specs.Laws.{OpIsSmall, PutsSmall, AreSmall}
use Rattle.snap_core.specs.Ranges.{AtomInRange}
use Rattle.snap_core.specs.Inputs.{IsStore}
use Rattle.snap_core.proofs.Kept.{IfDefined}
use Rattle.snap_core.proofs.Gathered.{beside_all, all_together_has, two_together_have, logged_has, then_has, either_has, each_has}
use Rattle.snap_core.proofs.PacketSets.{contains-no_packets, contains-with_packet, contains-union}

-- ---- one number
small-index : (k : List ℕ) (c : ℕ) → AreSmall k → slice_index k c < 2 ^ 64
small-index [] c h = lit< tt
small-index (x ∷ k) zero h = h 0 x (omega arith)
small-index (x ∷ k) (suc c) h = small-index k c (All-tail (λ n. n < 2 ^ 64) x k h)

small-value : (a : Atom) (k : List ℕ) → AtomInRange a → AreSmall k → value_of a k < 2 ^ 64
small-value (Num n) k a h = a
small-value (Comp c) k a h = small-index k c h

small-number : (o : Op) (old : ℕ) (k : List ℕ) → OpIsSmall o → AreSmall k → number_after o old k < 2 ^ 64
small-number (Put a) old k s h = small-value a k s h
small-number (Add n) old k s h = let positive : 0 < 2 ^ 64 = lit< tt in omega arith

small-update : (u : Update) (m : Arrays) (k : List ℕ) → OpIsSmall u.op → IsStore m → AreSmall k → IsStore (update m u k)
small-update u m k s h a q =
    elim (same_place (place_at u.var u.index k) q) as (λ t. cond t (number_after u.op (m (place_at u.var u.index k)) k) (m q) < 2 ^ 64) [
      | true ↦ small-number u.op (m (place_at u.var u.index k)) k s a
      | false ↦ h q
    ]

-- ---- packets
abbrev pub Good : ℕ → List ℕ → Type 0
Good n k = (length k ≡ n) × AreSmall k

abbrev pub AllGood : ℕ → PacketSet → Type 0
AllGood n s = (k : List ℕ) → IsTrue (contains_key s k) → Good n k

good-none : (n : ℕ) → AllGood n no_packets
good-none n k h = absurd (both_ways _ (contains-no_packets k) h)

good-one : (n : ℕ) (x : List ℕ) → Good n x → AllGood n (with_packet no_packets x)
good-one n x good k h =
    ⊎_elim
    (λ same. subst (Good n) (sym ((bytes_decides k x).0 (sym (is_eq-slice_cmp k x) ∙ same))) good)
    (λ other. absurd (both_ways _ (contains-no_packets k) other))
    (or_cases (eq_by_cmp packet_cmp k x) (contains_key no_packets k) (sym (contains-with_packet no_packets x k) ∙ h))

good-union : (n : ℕ) (s t : PacketSet) → AllGood n s → AllGood n t → AllGood n (union s t)
good-union n s t a b k h = ⊎_elim (λ x. a k x) (λ y. b k y) (or_cases (contains_key s k) (contains_key t k) (sym (contains-union s t k) ∙ h))

pub good-listed : (n : ℕ) (s : PacketSet) → AllGood n s → All (Good n) (listed s)
good-listed n s h =
    All-weaker (Contains (listed s)) (Good n) (λ k there. h k (contains_key-keys s k ∙ list_any-from_Contains (eq_by_cmp_equiv nat_list_cmp_total) k (listed s) there))
    (listed s) (All-contains_itself (listed s))

-- ---- outcomes
abbrev pub Fine : ℕ → Meaning → Type 0
Fine n o = IsStore o.arrays × AllGood n o.packets

fine-all : (n : ℕ) (m : Arrays) → IsStore m → (os : List Meaning) → All (Fine n) os → Fine n (beside_all m os)
fine-all n m small os h = (λ q. arrays q os h, packets os h)
  where
    arrays : (q : Place) (xs : List Meaning) → All (Fine n) xs → merge m xs q < 2 ^ 64
    arrays q [] k = small q
    arrays q (x ∷ xs) k =
        elim (has x.writes q.var) as (λ t. cond t (x.arrays q) (merge m xs q) < 2 ^ 64) [
          | true ↦ (k 0 x (omega arith)).0 q
          | false ↦ arrays q xs (All-tail (Fine n) x xs k)
        ]

    packets : (xs : List Meaning) → All (Fine n) xs → AllGood n (all_packets xs)
    packets [] k = good-none n
    packets (x ∷ xs) k = good-union n x.packets (all_packets xs) (k 0 x (omega arith)).1 (packets xs (All-tail (Fine n) x xs k))

filtered : (n : ℕ) (k : List ℕ) (t : Bool) → Good n k → AllGood n (cond t (with_packet no_packets k) no_packets)
filtered n k true h = good-one n k h
filtered n k false h = good-none n

pub stays_fine : (p : Pol) (m : Arrays) (k : List ℕ) (n : ℕ) → PutsSmall p → IsStore m → Good n k → IfDefined (Fine n) (eval p m k)
stays_fine (Filter x) m k n s h a = (h, filtered n k (truth x m k) a)
stays_fine (Set c b) m k n s h a = (h, good-one n (slice_set k c (value_of b k)) (length-set k c (value_of b k) ∙ a.0, All-set (λ n. n < 2 ^ 64) k c (value_of b k) (small-value b k s a.1) a.1))
stays_fine (Change u) m k n s h a = (small-update u m k s h a.1, good-one n k a)
stays_fine (Par' _ p _ q) m k n s h a =
    two_together_have (Fine n) (Fine n) m (fine-all n m h) (eval p m k) (eval q m k) (stays_fine p m k n s.0 h a) (stays_fine q m k n s.1 h a)
stays_fine (Seq' _ p _ q) m k n s h a =
    then_has (Fine n) (Fine n) (eval p m k) _
    (λ o first.
    logged_has (Fine n) (Fine n) o.reads o.writes _ (λ x f. f)
    (all_together_has (Fine n) (Fine n) o.arrays (fine-all n o.arrays first.0) (map (λ k'. eval q o.arrays k') (listed o.packets))
    (each_has (Good n) (Fine n) (λ k'. eval q o.arrays k') (listed o.packets) (λ k' g. stays_fine q o.arrays k' n s.1 first.0 g) (good-listed n o.packets first.1))))
    (stays_fine p m k n s.0 h a)
stays_fine (If' x _ p _ q) m k n s h a =
    logged_has (Fine n) (Fine n) (vars_of x) 0 _ (λ o f. f)
    (either_has (Fine n) (truth x m k) (eval p m k) (eval q m k) (stays_fine p m k n s.0 h a) (stays_fine q m k n s.1 h a))
stays_fine (Atomic' _ p) m k n s h a = stays_fine p m k n s h a
