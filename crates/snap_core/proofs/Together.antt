-- Outcomes side by side, one after another.
use Rattle.std.proofs.Common.{◌≡◌, ℕ, Bool, true, false, cond, ◌||◌, ◌&&◌, List, [], ◌∷◌, ◌++◌, Option, Some, None, refl, sym, ap, ◌∙◌, arith, append_assoc, bit_and, bit_or}
use Rattle.std.specs.Prelude.{not, nat_eq, option_and_then, option_map}
use Rattle.std.specs.List.{list_any}
use Rattle.std.specs.Int.{bit_at}
use Rattle.std.proofs.lemmas.Bool.{eqb-true, eqb-false, eq-eqb, ne_eqb, or_parts, both_ways}
use Rattle.std.proofs.lemmas.Nat.{and_comm, or_comm, le_or_l, le_or_r}
use Rattle.std.proofs.lemmas.Nat.Bits.{same_from_bits, bit_at_and, bit_at_or, bit_at-zero}
use Rattle.snap_core.specs.Arrays.{Arrays, taken, has, meets}
use Rattle.snap_core.specs.Packets.{union, no_packets}
use Rattle.snap_core.specs.Meaning.{Meaning, clash, any_clash, merge, all_packets, all_reads, all_writes, together, joined, beside, all_defined, all_together}
use Rattle.snap_core.proofs.Gathered.{beside_all}
use Rattle.snap_core.proofs.PacketSets.{union_assoc, union_none, none_union}

-- ---- sets of variables
and-or : (z x y : ℕ) → bit_and z (bit_or x y) ≡ bit_or (bit_and z x) (bit_and z y)
and-or z x y = same_from_bits _ _ (λ i.
    let a = bit_at_and z (bit_or x y) i in let b = bit_at_or x y i in
    let c = bit_at_or (bit_and z x) (bit_and z y) i in let d = bit_at_and z x i in let e = bit_at_and z y i in
    omega (arith, a, b, c, d, e))

or_zero : (a b : ℕ) (s t : Bool) → nat_eq a 0 ≡ s → nat_eq b 0 ≡ t → nat_eq (bit_or a b) 0 ≡ (s && t)
or_zero a b true true p q = eq-eqb _ 0 (λ i. bit_or (eqb-true a 0 p i) (eqb-true b 0 q i))
or_zero a b true false p q = ne_eqb _ 0 (λ e. eqb-false b 0 q (let l = le_or_r a b in omega (arith, l, e)))
or_zero a b false t p q = ne_eqb _ 0 (λ e. eqb-false a 0 p (let l = le_or_l a b in omega (arith, l, e)))

or_is_zero : (a b : ℕ) → nat_eq (bit_or a b) 0 ≡ (nat_eq a 0 && nat_eq b 0)
or_is_zero a b = or_zero a b _ _ refl refl

split : (a b : Bool) → not (a && b) ≡ (not a || not b)
split true b = refl
split false b = refl

pub meets-or : (z x y : ℕ) → meets z (bit_or x y) ≡ (meets z x || meets z y)
meets-or z x y = ap (λ n. not (nat_eq n 0)) (and-or z x y) ∙ ap not (or_is_zero (bit_and z x) (bit_and z y)) ∙ split _ _

meets_flip : (a b : ℕ) → meets a b ≡ meets b a
meets_flip a b = ap (λ n. not (nat_eq n 0)) (and_comm a b)

or-meets : (x y z : ℕ) → meets (bit_or x y) z ≡ (meets x z || meets y z)
or-meets x y z = meets_flip (bit_or x y) z ∙ meets-or z x y ∙ (λ i. meets_flip z x i || meets_flip z y i)

pub both_have : (a b v : ℕ) → has a v ≡ true → has b v ≡ true → meets a b ≡ true
both_have a b v p q =
    let x : bit_at a v ≡ 1 = eqb-true _ 1 p in let y : bit_at b v ≡ 1 = eqb-true _ 1 q in let z = bit_at_and a b v in
    ap not (ne_eqb (bit_and a b) 0 (λ e. let w = bit_at-zero v in let u = ap (λ n. bit_at n v) e in absurd (omega (arith, x, y, z, w, u))))

pub or_assoc : (x y z : ℕ) → bit_or x (bit_or y z) ≡ bit_or (bit_or x y) z
or_assoc x y z = same_from_bits _ _ (λ i.
    let a = bit_at_or x (bit_or y z) i in let b = bit_at_or y z i in
    let c = bit_at_or (bit_or x y) z i in let d = bit_at_or x y i in
    omega (arith, a, b, c, d))

-- ---- clashes
regrouped : (a b c d e f : Bool) → ((a || b) || ((c || d) || (e || f))) ≡ ((a || (c || e)) || (b || (d || f)))
regrouped true b c d e f = refl
regrouped false true true d e f = refl
regrouped false true false d true f = refl
regrouped false true false d false f = refl
regrouped false false true d e f = refl
regrouped false false false true true f = refl
regrouped false false false true false f = refl
regrouped false false false false e f = refl

clash_parts : (a b : Meaning) → clash a b ≡ (meets a.writes (bit_or b.reads b.writes) || (meets b.writes a.reads || meets b.writes a.writes))
clash_parts a b = ap (λ t. meets a.writes (bit_or b.reads b.writes) || t) (meets-or b.writes a.reads a.writes)

abbrev log : ℕ → ℕ → Meaning
log r w = record { arrays = λ p. 0; packets = no_packets; reads = r; writes = w }

-- what clashes with two outcomes side by side clashes with one of them
pub clash-joined : (o t b : Meaning) → clash (joined o t) b ≡ (clash o b || clash t b)
clash-joined o t b =
    (λ i. or-meets o.writes t.writes (bit_or b.reads b.writes) i || meets-or b.writes (bit_or o.reads t.reads) (bit_or o.writes t.writes) i)
    ∙ (λ i. (meets o.writes (bit_or b.reads b.writes) || meets t.writes (bit_or b.reads b.writes)) || (meets-or b.writes o.reads t.reads i || meets-or b.writes o.writes t.writes i))
    ∙ regrouped (meets o.writes (bit_or b.reads b.writes)) (meets t.writes (bit_or b.reads b.writes)) (meets b.writes o.reads) (meets b.writes t.reads) (meets b.writes o.writes) (meets b.writes t.writes)
    ∙ (λ i. sym (clash_parts o b) i || sym (clash_parts t b) i)

clash-none : (b : Meaning) → clash (log 0 0) b ≡ false
clash-none b = ap (λ n. not (nat_eq n 0)) (and_comm b.writes 0)

clash-all : (os : List Meaning) (b : Meaning) → clash (log (all_reads os) (all_writes os)) b ≡ list_any (λ o. clash o b) os
clash-all [] b = clash-none b
clash-all (o ∷ os) b = clash-joined o (log (all_reads os) (all_writes os)) b ∙ ap (λ t. clash o b || t) (clash-all os b)

list_any_push : (p : Meaning → Bool) (os : List Meaning) (b : Meaning) → list_any p (os ++ b ∷ []) ≡ (list_any p os || p b)
list_any_push p [] b = or_false (p b)
  where
    or_false : (t : Bool) → (t || false) ≡ t
    or_false true = refl
    or_false false = refl
list_any_push p (o ∷ os) b = ap (λ t. p o || t) (list_any_push p os b) ∙ assoc (p o) (list_any p os) (p b)
  where
    assoc : (x y z : Bool) → (x || (y || z)) ≡ ((x || y) || z)
    assoc true y z = refl
    assoc false y z = refl

four : (a b c d : Bool) → ((a || b) || (c || d)) ≡ ((a || c) || (b || d))
four true b c d = refl
four false true true d = refl
four false true false d = refl
four false false c d = refl

any_clash-push : (os : List Meaning) (b : Meaning) → any_clash (os ++ b ∷ []) ≡ (any_clash os || list_any (λ o. clash o b) os)
any_clash-push [] b = refl
any_clash-push (o ∷ os) b =
    (λ i. list_any_push (clash o) os b i || any_clash-push os b i)
    ∙ four (list_any (clash o) os) (clash o b) (any_clash os) (list_any (λ x. clash x b) os)

-- ---- the arrays
pub cond-swap : {A : Type 0} (s t : Bool) (x y z : A) → (s ≡ true → t ≡ true → ⊥) → cond s x (cond t y z) ≡ cond t y (cond s x z)
cond-swap true true x y z h = absurd (h refl refl)
cond-swap true false x y z h = refl
cond-swap false t x y z h = refl

merge-push : (m : Arrays) (os : List Meaning) (b : Meaning) → list_any (λ o. clash o b) os ≡ false → merge m (os ++ b ∷ []) ≡ taken (merge m os) b.arrays b.writes
merge-push m [] b h = refl
merge-push m (o ∷ os) b h =
    let parts = or_parts (clash o b) (list_any (λ x. clash x b) os) h in
    λ i p. (ap (λ n. cond (has o.writes p.var) (o.arrays p) n) (λ j. merge-push m os b parts.1 j p)
    ∙ cond-swap (has o.writes p.var) (has b.writes p.var) (o.arrays p) (b.arrays p) (merge m os p) (λ x y. both o b p.var parts.0 x y)) i
  where
    both : (a c : Meaning) (v : ℕ) → clash a c ≡ false → has a.writes v ≡ true → has c.writes v ≡ true → ⊥
    both a c v none x y =
        let no = or_parts (meets a.writes (bit_or c.reads c.writes)) (meets c.writes (bit_or a.reads a.writes)) none in
        let no' = or_parts (meets a.writes c.reads) (meets a.writes c.writes) (sym (meets-or a.writes c.reads c.writes) ∙ no.0) in
        both_ways _ no'.1 (both_have a.writes c.writes v x y)

-- ---- the other parts
packets-push : (os : List Meaning) (b : Meaning) → all_packets (os ++ b ∷ []) ≡ union (all_packets os) b.packets
packets-push [] b = none_union b.packets ∙ sym (union_none b.packets)
packets-push (o ∷ os) b = ap (union o.packets) (packets-push os b) ∙ sym (union_assoc o.packets (all_packets os) b.packets)

reads-push : (os : List Meaning) (b : Meaning) → all_reads (os ++ b ∷ []) ≡ bit_or (all_reads os) b.reads
reads-push [] b = or_comm b.reads 0
reads-push (o ∷ os) b = ap (bit_or o.reads) (reads-push os b) ∙ or_assoc o.reads (all_reads os) b.reads

writes-push : (os : List Meaning) (b : Meaning) → all_writes (os ++ b ∷ []) ≡ bit_or (all_writes os) b.writes
writes-push [] b = or_comm b.writes 0
writes-push (o ∷ os) b = ap (bit_or o.writes) (writes-push os b) ∙ or_assoc o.writes (all_writes os) b.writes

-- ---- one more outcome
push_cases : (m : Arrays) (os : List Meaning) (b : Meaning) (s t : Bool) → any_clash os ≡ s → list_any (λ o. clash o b) os ≡ t → together m (os ++ b ∷ []) ≡ beside (together m os) (Some b)
push_cases m os b true t e f =
    ap (λ s. cond s None (Some (beside_all m (os ++ b ∷ [])))) (any_clash-push os b ∙ ap (λ s. s || list_any (λ o. clash o b) os) e)
    ∙ sym (ap (λ s. beside (cond s None (Some (beside_all m os))) (Some b)) e)
push_cases m os b false true e f =
    ap (λ s. cond s None (Some (beside_all m (os ++ b ∷ [])))) (any_clash-push os b ∙ (λ i. e i || f i))
    ∙ sym (ap (λ s. beside (cond s None (Some (beside_all m os))) (Some b)) e ∙ ap (λ s. cond s None (Some (joined (beside_all m os) b))) (clash-all os b ∙ f))
push_cases m os b false false e f =
    ap (λ s. cond s None (Some (beside_all m (os ++ b ∷ [])))) (any_clash-push os b ∙ (λ i. e i || f i))
    ∙ (λ i. Some (record { arrays = merge-push m os b f i; packets = packets-push os b i; reads = reads-push os b i; writes = writes-push os b i }))
    ∙ sym (ap (λ s. beside (cond s None (Some (beside_all m os))) (Some b)) e ∙ ap (λ s. cond s None (Some (joined (beside_all m os) b))) (clash-all os b ∙ f))

together-push : (m : Arrays) (os : List Meaning) (b : Meaning) → together m (os ++ b ∷ []) ≡ beside (together m os) (Some b)
together-push m os b = push_cases m os b _ _ refl refl

pub beside_none : (a : Option Meaning) → beside a None ≡ None
beside_none None = refl
beside_none (Some x) = refl

all_defined-push : (xs : List (Option Meaning)) (o : Option Meaning) → all_defined (xs ++ o ∷ []) ≡ option_and_then (λ os. option_map (λ b. os ++ b ∷ []) o) (all_defined xs)
all_defined-push [] None = refl
all_defined-push [] (Some b) = refl
all_defined-push (None ∷ xs) o = refl
all_defined-push (Some x ∷ xs) o = ap (option_map (λ os. x ∷ os)) (all_defined-push xs o) ∙ under x o (all_defined xs)
  where
    under : (x : Meaning) (o : Option Meaning) (d : Option (List Meaning)) → option_map (λ os. x ∷ os) (option_and_then (λ os. option_map (λ b. os ++ b ∷ []) o) d) ≡ option_and_then (λ os. option_map (λ b. os ++ b ∷ []) o) (option_map (λ os. x ∷ os) d)
    under x o None = refl
    under x None (Some os) = refl
    under x (Some b) (Some os) = refl

-- one more outcome after those so far
pub all_together-push : (m : Arrays) (xs : List (Option Meaning)) (o : Option Meaning) → all_together m (xs ++ o ∷ []) ≡ beside (all_together m xs) o
all_together-push m xs o = ap (option_and_then (together m)) (all_defined-push xs o) ∙ after (all_defined xs) o
  where
    after : (d : Option (List Meaning)) (o : Option Meaning) → option_and_then (together m) (option_and_then (λ os. option_map (λ b. os ++ b ∷ []) o) d) ≡ beside (option_and_then (together m) d) o
    after None o = refl
    after (Some os) None = sym (beside_none (together m os))
    after (Some os) (Some b) = together-push m os b

-- what is undefined stays so
pub all_together-none : (m : Arrays) (ys xs : List (Option Meaning)) → all_together m xs ≡ None → all_together m (xs ++ ys) ≡ None
all_together-none m [] xs h = ap (all_together m) (append_none xs) ∙ h
  where
    append_none : (l : List (Option Meaning)) → l ++ [] ≡ l
    append_none [] = refl
    append_none (x ∷ l) = ap (λ r. x ∷ r) (append_none l)
all_together-none m (y ∷ ys) xs h =
    ap (all_together m) (sym (append_assoc xs (y ∷ []) ys))
    ∙ all_together-none m ys (xs ++ y ∷ []) (all_together-push m xs y ∙ ap (λ a. beside a y) h)
