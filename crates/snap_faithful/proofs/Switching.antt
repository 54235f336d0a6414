-- One big switch over a list of packets, and the numbers of these.
use Rattle.std.proofs.Common.{◌≡◌, ◌≢◌, ℕ, zero, suc, ◌+◌, ◌⊎◌, inl, inr, List, [], ◌∷◌, ◌++◌, length, Option, Some, None, refl, sym, ap, subst, ◌∙◌, arith, append_assoc}
use Rattle.std.specs.Prelude.{slice_get, slice_index_or, option_map, option_and_then}
use Rattle.std.specs.List.{All, range_with_len}
use Rattle.std.proofs.lemmas.List.{length-append}
use Rattle.std.proofs.lemmas.List.Elements.{All-head, All-tail}
use Rattle.std.proofs.lemmas.Option.{none-some, same_Some}
use Rattle.snap_core.specs.declared.policy.Pol.{Pol}
use Rattle.snap_core.specs.Arrays.{Arrays}
use Rattle.snap_core.specs.Inputs.{IsStore, IsPacket, IsZeroFrom}
use Rattle.snap_core.specs.Laws.{PutsSmall}
use Rattle.snap_core.specs.Meaning.{Meaning, eval}
use Rattle.snap_core.specs.Switch.{Switched, one_big_switch}
use Rattle.snap_core.proofs.Kept.{IfDefined}
use Rattle.snap_core.proofs.Small.{Fine, stays_fine}
use Rattle.snap_core.proofs.Switching.{in_front}
use Rattle.snap_dep.specs.Dependencies.{UsesBelow}
use Rattle.snap_dep.specs.Locality.{NeverRaces}
use Rattle.snap_dep.proofs.Below.{writes_below}
use Rattle.snap_dep.proofs.Locals as locals
use Rattle.snap_dep.proofs.Locals.{Untouched, untouched}
use Rattle.snap_faithful.specs.Agreement.{in_order, numbered}

-- ---- one more packet
abbrev pub behind : Switched → Meaning → Switched
behind a o = record { packets = a.packets ++ o.packets ∷ []; arrays = o.arrays }

abbrev then_one : Pol → List ℕ → Option Switched → Option Switched
then_one p k x = option_and_then (λ (a : Switched). option_map (behind a) (eval p a.arrays k)) x

switched_push : (p : Pol) (ks : List (List ℕ)) (m : Arrays) (k : List ℕ) → one_big_switch p m (ks ++ k ∷ []) ≡ then_one p k (one_big_switch p m ks)
switched_push p [] m k = last (eval p m k)
  where
    last : (x : Option Meaning) → option_and_then (λ (o : Meaning). option_map (in_front o) (one_big_switch p o.arrays [])) x ≡ option_map (behind (record { packets = []; arrays = m })) x
    last None = refl
    last (Some o) = refl
switched_push p (q ∷ ks) m k = first (eval p m q) (λ n. switched_push p ks n k)
  where
    inner : (o : Meaning) (a : Switched) (y : Option Meaning) → option_map (in_front o) (option_map (behind a) y) ≡ option_map (behind (in_front o a)) y
    inner o a None = refl
    inner o a (Some r) = refl

    more : (o : Meaning) (x : Option Switched) → option_map (in_front o) (then_one p k x) ≡ then_one p k (option_map (in_front o) x)
    more o None = refl
    more o (Some a) = inner o a (eval p a.arrays k)

    first : (x : Option Meaning) → ((n : Arrays) → one_big_switch p n (ks ++ k ∷ []) ≡ then_one p k (one_big_switch p n ks))
        → option_and_then (λ (o : Meaning). option_map (in_front o) (one_big_switch p o.arrays (ks ++ k ∷ []))) x ≡ then_one p k (option_and_then (λ (o : Meaning). option_map (in_front o) (one_big_switch p o.arrays ks)) x)
    first None h = refl
    first (Some o) h = ap (option_map (in_front o)) (h o.arrays) ∙ more o (one_big_switch p o.arrays ks)

pub switched_more : (p : Pol) (ks : List (List ℕ)) (m : Arrays) (k : List ℕ) (a : Switched) (o : Meaning) → one_big_switch p m ks ≡ Some a → eval p a.arrays k ≡ Some o → one_big_switch p m (ks ++ k ∷ []) ≡ Some (behind a o)
switched_more p ks m k a o e f = switched_push p ks m k ∙ ap (then_one p k) e ∙ ap (option_map (behind a)) f

pub switched_first : (p : Pol) (m : Arrays) (k : List ℕ) (ks : List (List ℕ)) (o : Meaning) (a : Switched) → eval p m k ≡ Some o → one_big_switch p o.arrays ks ≡ Some a → one_big_switch p m (k ∷ ks) ≡ Some (in_front o a)
switched_first p m k ks o a e f =
    ap (option_and_then (λ (o : Meaning). option_map (λ (r : Switched). record { packets = o.packets ∷ r.packets; arrays = r.arrays }) (one_big_switch p o.arrays ks))) e
    ∙ ap (option_map (λ (r : Switched). record { packets = o.packets ∷ r.packets; arrays = r.arrays })) f

pub only_outcome : (p : Pol) (m : Arrays) (k : List ℕ) (end : Switched) → one_big_switch p m (k ∷ []) ≡ Some end → (o : Meaning) × (eval p m k ≡ Some o) × (o.arrays ≡ end.arrays)
only_outcome p m k end is = by (eval p m k) refl is
  where
    by : (x : Option Meaning) → eval p m k ≡ x → option_and_then (λ (o : Meaning). option_map (λ (r : Switched). record { packets = o.packets ∷ r.packets; arrays = r.arrays }) (one_big_switch p o.arrays [])) x ≡ Some end
        → (o : Meaning) × (eval p m k ≡ Some o) × (o.arrays ≡ end.arrays)
    by None e is = absurd (none-some end is)
    by (Some o) e is = (o, e, ap (λ (x : Switched). x.arrays) (same_Some _ end is))

-- the elements of a list with one more
pub in_pushed : {A : Type 0} (xs : List A) (x y : A) (i : ℕ) → slice_get (xs ++ x ∷ []) i ≡ Some y → (slice_get xs i ≡ Some y) ⊎ ((i ≡ length xs) × (x ≡ y))
in_pushed [] x y zero e = inr (refl, same_Some x y e)
in_pushed [] x y (suc i) e = absurd (none-some y e)
in_pushed (z ∷ xs) x y zero e = inl e
in_pushed (z ∷ xs) x y (suc i) e = up (in_pushed xs x y i e)
  where
    up : (slice_get xs i ≡ Some y) ⊎ ((i ≡ length xs) × (x ≡ y)) → (slice_get xs i ≡ Some y) ⊎ ((suc i ≡ suc (length xs)) × (x ≡ y))
    up (inl a) = inl a
    up (inr b) = inr (ap suc b.0, b.1)

-- ---- where it is defined
pub some_eval : (p : Pol) (m : Arrays) (k : List ℕ) → eval p m k ≢ None → (o : Meaning) × (eval p m k ≡ Some o)
some_eval p m k some = by (eval p m k) refl
  where
    by : (x : Option Meaning) → eval p m k ≡ x → (o : Meaning) × (eval p m k ≡ Some o)
    by None e = absurd (some e)
    by (Some o) e = (o, e)

-- numbers stay within 64 bits
abbrev pub KeepsStores : Pol → ℕ → Type 0
KeepsStores p c = (m : Arrays) (k : List ℕ) (o : Meaning) → IsStore m → IsPacket c k → eval p m k ≡ Some o → IsStore o.arrays

pub keeps_stores : (p : Pol) (c : ℕ) → PutsSmall p → KeepsStores p c
keeps_stores p c small m k o store packet e =
    (subst (IfDefined (Fine (length k))) e (stays_fine p m k (length k) small store (refl, packet.numbers))).0

keeps_zeros : (p : Pol) (n : ℕ) → UsesBelow n p → (m : Arrays) (k : List ℕ) (o : Meaning) → eval p m k ≡ Some o → IsZeroFrom n m → IsZeroFrom n o.arrays
keeps_zeros p n uses m k o e zeros q l =
    (subst (locals.IfDefined (Untouched q m)) e (untouched q p (λ w. (let x = writes_below n p uses q.var w in omega (arith, x, l))) m k)).arrays ∙ zeros q l

-- one big switch is defined, and keeps stores
pub record Ends (n : ℕ) (p : Pol) (m : Arrays) (ks : List (List ℕ)) : Type 0 where
  pub end : Switched
  pub is : one_big_switch p m ks ≡ Some end
  pub store : IsStore end.arrays
  pub zeros : IsZeroFrom n end.arrays

pub ends : (p : Pol) (c n : ℕ) → UsesBelow n p → KeepsStores p c → NeverRaces p c → (ks : List (List ℕ)) (m : Arrays) → IsStore m → IsZeroFrom n m → All (IsPacket c) ks → Ends n p m ks
ends p c n uses keeps never [] m store zeros all = record { end = record { packets = []; arrays = m }; is = refl; store = store; zeros = zeros }
ends p c n uses keeps never (k ∷ ks) m store zeros all =
    let packet = All-head (IsPacket c) k ks all in
    let o = some_eval p m k (never m k store packet) in
    let r = ends p c n uses keeps never ks o.0.arrays (keeps m k o.0 store packet o.1) (keeps_zeros p n uses m k o.0 o.1 zeros) (All-tail (IsPacket c) k ks all) in
    record { end = in_front o.0 r.end; is = switched_first p m k ks o.0 r.end o.1 r.is; store = r.store; zeros = r.zeros }

-- ---- numbers of a list's elements
pub picked_at : (pre : List (List ℕ)) (k : List ℕ) (ks : List (List ℕ)) → slice_index_or (pre ++ k ∷ ks) (length pre) [] ≡ k
picked_at [] k ks = refl
picked_at (x ∷ pre) k ks = picked_at pre k ks

picks_rest : (pre : List (List ℕ)) (k : List ℕ) (ks : List (List ℕ)) → in_order ((pre ++ k ∷ []) ++ ks) (range_with_len (length (pre ++ k ∷ [])) (length ks)) ≡ ks
    → in_order (pre ++ k ∷ ks) (range_with_len (length pre + 1) (length ks)) ≡ ks
picks_rest pre k ks e =
    subst (λ l. in_order l (range_with_len (length pre + 1) (length ks)) ≡ ks) (append_assoc pre (k ∷ []) ks)
    (subst (λ x. in_order ((pre ++ k ∷ []) ++ ks) (range_with_len x (length ks)) ≡ ks) (length-append pre (k ∷ [])) e)

picks : (pre ks : List (List ℕ)) → in_order (pre ++ ks) (range_with_len (length pre) (length ks)) ≡ ks
picks pre [] = refl
picks pre (k ∷ ks) = λ i. picked_at pre k ks i ∷ picks_rest pre k ks (picks (pre ++ k ∷ []) ks) i

-- in the order of their numbers the packets stand as they do
pub picks_all : (ks : List (List ℕ)) → in_order ks (numbered ks) ≡ ks
picks_all ks = picks [] ks

pub number_at : (n a j i : ℕ) → slice_get (range_with_len a n) j ≡ Some i → i ≡ a + j
number_at zero a j i e = absurd (none-some i e)
number_at (suc n) a zero i e = sym (same_Some a i e) ∙ omega arith
number_at (suc n) a (suc j) i e = number_at n (a + 1) j i e ∙ omega arith
