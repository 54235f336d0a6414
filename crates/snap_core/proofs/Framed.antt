-- An evaluation depends on the variables of its logs alone.
use Rattle.std.proofs.Common.{◌≡◌, ℕ, ◌^◌, Bool, true, false, cond, ◌||◌, List, [], ◌∷◌, Option, Some, None, map, refl, sym, ap, subst, ◌∙◌, arith, bit_or}
use Rattle.std.specs.Prelude.{option_and_then, option_map}
use Rattle.std.specs.Int.{bit_at}
use Rattle.std.specs.Int.Bits.{or_zero_l}
use Rattle.std.specs.List.{list_any}
use Rattle.std.proofs.lemmas.Bool.{cond-true, cond-false, eqb-true, eq-eqb}
use Rattle.std.proofs.lemmas.Nat.Bits.{bit_at_or, bit_at-lt, bit_at-zero, bit_at-pow_same}
use Rattle.snap_core.specs.declared.place.Place.{Place}
use Rattle.snap_core.specs.declared.policy.Pol.{Pol}
use Rattle.snap_core.specs.declared.policy.Pol.TheVariants.{Filter, Set, Change, Par', Seq', If', Atomic'}
use Rattle.snap_core.specs.declared.policy.Pred.{Pred}
use Rattle.snap_core.specs.declared.policy.Pred.TheVariants.{Id, Drop, Field, State, Not', And', Or'}
use Rattle.snap_core.specs.declared.policy.Update.{Update}
use Rattle.snap_core.specs.Arrays.{Arrays, same_place, place_at, value_of, number_after, update, taken, has}
use Rattle.snap_core.specs.Laws.{AgreesOn}
use Rattle.snap_core.specs.Packets.{no_packets, with_packet, listed, union}
use Rattle.snap_core.specs.Meaning.{Meaning, truth, vars_of, clash, any_clash, merge, all_packets, all_reads, all_writes, together, joined, beside, all_defined, all_together, logged, eval}
use Rattle.snap_core.proofs.EvalLemmas.{both_together}
use Rattle.snap_core.proofs.Gathered.{beside_all}
use Rattle.snap_core.proofs.Kept.{Keeps, IfDefined, keeps, all_together_keeps}
use Rattle.snap_core.proofs.Unwritten.{no_bit, without, updated_keeps}

-- ---- sets of variables
pub in_left : (a b v : ℕ) → has a v ≡ true → has (bit_or a b) v ≡ true
in_left a b v h =
    let here : bit_at a v ≡ 1 = eqb-true _ 1 h in let o = bit_at_or a b v in let l = bit_at-lt (bit_or a b) v in
    eq-eqb _ 1 (omega (arith, here, o, l))

pub in_right : (a b v : ℕ) → has b v ≡ true → has (bit_or a b) v ≡ true
in_right a b v h =
    let here : bit_at b v ≡ 1 = eqb-true _ 1 h in let o = bit_at_or a b v in let l = bit_at-lt (bit_or a b) v in
    eq-eqb _ 1 (omega (arith, here, o, l))

pub has-or_neither : (a b v : ℕ) → has a v ≡ false → has b v ≡ false → has (bit_or a b) v ≡ false
has-or_neither a b v h k =
    let x = no_bit a v h in let y = no_bit b v k in let o = bit_at_or a b v in
    without (bit_or a b) v (omega (arith, x, y, o))

pub has-zero : (v : ℕ) → has 0 v ≡ false
has-zero v = ap (λ b. Rattle.std.specs.Prelude.nat_eq b 1) (bit_at-zero v)

pub has-pow_same : (v : ℕ) → has (2 ^ v) v ≡ true
has-pow_same v = eq-eqb _ 1 (bit_at-pow_same v)

-- ---- the same outcome from other arrays
abbrev pub from : Arrays → Meaning → Meaning
from n o = record o { arrays = taken n o.arrays o.writes }

abbrev logs : Meaning → ℕ
logs o = bit_or o.reads o.writes

-- y is the outcome x, from the arrays n in place of m, where these agree on its logs
abbrev pub Follows : Arrays → Arrays → Option Meaning → Option Meaning → Type 0
Follows m n x y = IfDefined (λ o. AgreesOn (logs o) m n → y ≡ Some (from n o)) x

nothing_taken : (n m : Arrays) → n ≡ taken n m 0
nothing_taken n m = λ i q. sym (cond-false (has 0 q.var) (m q) (n q) (has-zero q.var)) i

-- ---- predicates
truth-agrees : (x : Pred) (m n : Arrays) (k : List ℕ) → AgreesOn (vars_of x) m n → truth x n k ≡ truth x m k
truth-agrees Id m n k h = refl
truth-agrees Drop m n k h = refl
truth-agrees (Field c v) m n k h = refl
truth-agrees (State s es a) m n k h = ap (λ v. Rattle.std.specs.Prelude.nat_eq v (value_of a k)) (h (place_at s es k) (has-pow_same s))
truth-agrees (Not' _ x) m n k h = ap Rattle.std.specs.Prelude.not (truth-agrees x m n k h)
truth-agrees (And' _ x _ y) m n k h = λ i.
    Rattle.std.specs.Prelude.◌&&◌ (truth-agrees x m n k (λ q e. h q (in_left (vars_of x) (vars_of y) q.var e)) i) (truth-agrees y m n k (λ q e. h q (in_right (vars_of x) (vars_of y) q.var e)) i)
truth-agrees (Or' _ x _ y) m n k h = λ i.
    truth-agrees x m n k (λ q e. h q (in_left (vars_of x) (vars_of y) q.var e)) i || truth-agrees y m n k (λ q e. h q (in_right (vars_of x) (vars_of y) q.var e)) i

-- ---- updates
update-agrees : (u : Update) (m n : Arrays) (k : List ℕ) → AgreesOn (2 ^ u.var) m n → update n u k ≡ taken n (update m u k) (2 ^ u.var)
update-agrees u m n k h = λ i q. by_var q (has (2 ^ u.var) q.var) refl i
  where
    by_var : (q : Place) (t : Bool) → has (2 ^ u.var) q.var ≡ t → update n u k q ≡ cond (has (2 ^ u.var) q.var) (update m u k q) (n q)
    by_var q true e =
        let p = place_at u.var u.index k in
        (λ i. cond (same_place p q) (number_after u.op (h p (has-pow_same u.var) i) k) (h q e i))
        ∙ sym (cond-true (has (2 ^ u.var) q.var) (update m u k q) (n q) e)
    by_var q false e = updated_keeps u n k q e ∙ sym (cond-false (has (2 ^ u.var) q.var) (update m u k q) (n q) e)

-- ---- two outcomes side by side
joined-from : (n : Arrays) (a b : Meaning) → joined (from n a) (from n b) ≡ from n (joined a b)
joined-from n a b = λ i. record { arrays = λ q. at q (has b.writes q.var) (has a.writes q.var) refl refl i; packets = union a.packets b.packets; reads = bit_or a.reads b.reads; writes = bit_or a.writes b.writes }
  where
    at : (q : Place) (s t : Bool) → has b.writes q.var ≡ s → has a.writes q.var ≡ t
        → taken (taken n a.arrays a.writes) (taken n b.arrays b.writes) b.writes q ≡ taken n (taken a.arrays b.arrays b.writes) (bit_or a.writes b.writes) q
    at q true t e f =
        let v = q.var in
        cond-true (has b.writes v) _ _ e ∙ cond-true (has b.writes v) (b.arrays q) (n q) e
        ∙ sym (cond-true (has (bit_or a.writes b.writes) v) _ (n q) (in_right a.writes b.writes v e) ∙ cond-true (has b.writes v) (b.arrays q) (a.arrays q) e)
    at q false true e f =
        let v = q.var in
        cond-false (has b.writes v) _ _ e ∙ cond-true (has a.writes v) (a.arrays q) (n q) f
        ∙ sym (cond-true (has (bit_or a.writes b.writes) v) _ (n q) (in_left a.writes b.writes v f) ∙ cond-false (has b.writes v) (b.arrays q) (a.arrays q) e)
    at q false false e f =
        let v = q.var in
        cond-false (has b.writes v) _ _ e ∙ cond-false (has a.writes v) (a.arrays q) (n q) f
        ∙ sym (cond-false (has (bit_or a.writes b.writes) v) (taken a.arrays b.arrays b.writes q) (n q) (has-or_neither a.writes b.writes v f e))

-- the logs of both have those of each
logs_left : (r s w z v : ℕ) → has (bit_or r w) v ≡ true → has (bit_or (bit_or r s) (bit_or w z)) v ≡ true
logs_left r s w z v h =
    let a = bit_at_or r w v in let b = bit_at_or (bit_or r s) (bit_or w z) v in let c = bit_at_or r s v in let d = bit_at_or w z v in
    let l = bit_at-lt (bit_or (bit_or r s) (bit_or w z)) v in let here : bit_at (bit_or r w) v ≡ 1 = eqb-true _ 1 h in
    eq-eqb _ 1 (omega (arith, a, b, c, d, l, here))

logs_right : (r s w z v : ℕ) → has (bit_or s z) v ≡ true → has (bit_or (bit_or r s) (bit_or w z)) v ≡ true
logs_right r s w z v h =
    let a = bit_at_or s z v in let b = bit_at_or (bit_or r s) (bit_or w z) v in let c = bit_at_or r s v in let d = bit_at_or w z v in
    let l = bit_at-lt (bit_or (bit_or r s) (bit_or w z)) v in let here : bit_at (bit_or s z) v ≡ 1 = eqb-true _ 1 h in
    eq-eqb _ 1 (omega (arith, a, b, c, d, l, here))

beside-follows : (m n : Arrays) (a b x y : Option Meaning) → Follows m n a x → Follows m n b y → Follows m n (beside a b) (beside x y)
beside-follows m n None b x y h k = tt
beside-follows m n (Some a) None x y h k = tt
beside-follows m n (Some a) (Some b) x y h k = by_clash (clash a b) refl
  where
    by_clash : (t : Bool) → clash a b ≡ t → Follows m n (cond t None (Some (joined a b))) (beside x y)
    by_clash true e = tt
    by_clash false e = λ agrees.
        (λ i. beside (h (λ q l. agrees q (logs_left a.reads b.reads a.writes b.writes q.var l)) i) (k (λ q l. agrees q (logs_right a.reads b.reads a.writes b.writes q.var l)) i))
        ∙ ap (λ t. cond t None (Some (joined (from n a) (from n b)))) e
        ∙ ap Some (joined-from n a b)

-- ---- outcomes on packets
abbrev IfAllDefined : (List Meaning → Type 0) → Option (List Meaning) → Type 0
IfAllDefined P None = Unit {0}
IfAllDefined P (Some os) = P os

abbrev all_logs : List Meaning → ℕ
all_logs os = bit_or (all_reads os) (all_writes os)

one_more : (m n : Arrays) (a x : Option Meaning) (d e : Option (List Meaning)) → Follows m n a x → IfAllDefined (λ os. AgreesOn (all_logs os) m n → e ≡ Some (map (from n) os)) d
    → IfAllDefined (λ os. AgreesOn (all_logs os) m n → option_and_then (λ o. option_map (λ l. o ∷ l) e) x ≡ Some (map (from n) os)) (option_and_then (λ o. option_map (λ l. o ∷ l) d) a)
one_more m n None x d e h k = tt
one_more m n (Some o) x None e h k = tt
one_more m n (Some o) x (Some os) e h k = λ agrees. λ i.
    option_and_then (λ o'. option_map (λ l. o' ∷ l) (k (λ q l. agrees q (logs_right o.reads (all_reads os) o.writes (all_writes os) q.var l)) i)) (h (λ q l. agrees q (logs_left o.reads (all_reads os) o.writes (all_writes os) q.var l)) i)

clashes-from : (n : Arrays) (o : Meaning) (os : List Meaning) → list_any (clash (from n o)) (map (from n) os) ≡ list_any (clash o) os
clashes-from n o [] = refl
clashes-from n o (x ∷ os) = ap (λ t. clash o x || t) (clashes-from n o os)

any_clash-from : (n : Arrays) (os : List Meaning) → any_clash (map (from n) os) ≡ any_clash os
any_clash-from n [] = refl
any_clash-from n (o ∷ os) = λ i. clashes-from n o os i || any_clash-from n os i

packets-from : (n : Arrays) (os : List Meaning) → all_packets (map (from n) os) ≡ all_packets os
packets-from n [] = refl
packets-from n (o ∷ os) = ap (union o.packets) (packets-from n os)

reads-from : (n : Arrays) (os : List Meaning) → all_reads (map (from n) os) ≡ all_reads os
reads-from n [] = refl
reads-from n (o ∷ os) = ap (bit_or o.reads) (reads-from n os)

writes-from : (n : Arrays) (os : List Meaning) → all_writes (map (from n) os) ≡ all_writes os
writes-from n [] = refl
writes-from n (o ∷ os) = ap (bit_or o.writes) (writes-from n os)

merge-from : (m n : Arrays) (os : List Meaning) (q : Place) → merge n (map (from n) os) q ≡ taken n (merge m os) (all_writes os) q
merge-from m n [] q = sym (cond-false (has 0 q.var) (m q) (n q) (has-zero q.var))
merge-from m n (o ∷ os) q = by_write (merge-from m n os q) (has o.writes q.var) (has (all_writes os) q.var) refl refl
  where
    by_write : merge n (map (from n) os) q ≡ taken n (merge m os) (all_writes os) q → (s t : Bool) → has o.writes q.var ≡ s → has (all_writes os) q.var ≡ t → merge n (map (from n) (o ∷ os)) q ≡ taken n (merge m (o ∷ os)) (bit_or o.writes (all_writes os)) q
    by_write rest true t e f =
        let v = q.var in
        cond-true (has o.writes v) _ _ e ∙ cond-true (has o.writes v) (o.arrays q) (n q) e
        ∙ sym (cond-true (has (bit_or o.writes (all_writes os)) v) _ (n q) (in_left o.writes (all_writes os) v e) ∙ cond-true (has o.writes v) (o.arrays q) (merge m os q) e)
    by_write rest false true e f =
        let v = q.var in
        cond-false (has o.writes v) _ _ e ∙ rest ∙ cond-true (has (all_writes os) v) (merge m os q) (n q) f
        ∙ sym (cond-true (has (bit_or o.writes (all_writes os)) v) _ (n q) (in_right o.writes (all_writes os) v f) ∙ cond-false (has o.writes v) (o.arrays q) (merge m os q) e)
    by_write rest false false e f =
        let v = q.var in
        cond-false (has o.writes v) _ _ e ∙ rest ∙ cond-false (has (all_writes os) v) (merge m os q) (n q) f
        ∙ sym (cond-false (has (bit_or o.writes (all_writes os)) v) (merge m (o ∷ os) q) (n q) (has-or_neither o.writes (all_writes os) v e f))

together-from : (m n : Arrays) (os : List Meaning) → together n (map (from n) os) ≡ option_map (from n) (together m os)
together-from m n os =
    (λ i. cond (any_clash-from n os i) None (Some (record { arrays = λ q. merge-from m n os q i; packets = packets-from n os i; reads = reads-from n os i; writes = writes-from n os i })))
    ∙ under (any_clash os)
  where
    under : (t : Bool) → cond t None (Some (from n (beside_all m os))) ≡ option_map (from n) (cond t None (Some (beside_all m os)))
    under true = refl
    under false = refl

together-follows : (m n : Arrays) (d e : Option (List Meaning)) → IfAllDefined (λ os. AgreesOn (all_logs os) m n → e ≡ Some (map (from n) os)) d → Follows m n (option_and_then (together m) d) (option_and_then (together n) e)
together-follows m n None e h = tt
together-follows m n (Some os) e h = by_clash (any_clash os) refl
  where
    by_clash : (t : Bool) → any_clash os ≡ t → Follows m n (cond t None (Some (beside_all m os))) (option_and_then (together n) e)
    by_clash true c = tt
    by_clash false c = λ agrees.
        ap (option_and_then (together n)) (h agrees) ∙ together-from m n os ∙ ap (λ t. option_map (from n) (cond t None (Some (beside_all m os)))) c

each-follows : (p : Pol) (m n : Arrays) → ((k : List ℕ) → Follows m n (eval p m k) (eval p n k)) → (ks : List (List ℕ))
    → Follows m n (all_together m (map (λ k. eval p m k) ks)) (all_together n (map (λ k. eval p n k) ks))
each-follows p m n step ks = together-follows m n _ _ (all ks)
  where
    all : (l : List (List ℕ)) → IfAllDefined (λ os. AgreesOn (all_logs os) m n → all_defined (map (λ k. eval p n k) l) ≡ Some (map (from n) os)) (all_defined (map (λ k. eval p m k) l))
    all [] = λ agrees. refl
    all (k ∷ l) = one_more m n (eval p m k) (eval p n k) _ _ (step k) (all l)

-- ---- a part behind another
logged-from : (n : Arrays) (o t : Meaning) → ((q : Place) → Keeps o.arrays q t) → logged o.reads o.writes (from (taken n o.arrays o.writes) t) ≡ from n (logged o.reads o.writes t)
logged-from n o t kept = λ i. record { arrays = λ q. at q (has t.writes q.var) (has o.writes q.var) refl refl i; packets = t.packets; reads = bit_or o.reads t.reads; writes = bit_or o.writes t.writes }
  where
    at : (q : Place) (s z : Bool) → has t.writes q.var ≡ s → has o.writes q.var ≡ z
        → taken (taken n o.arrays o.writes) t.arrays t.writes q ≡ taken n t.arrays (bit_or o.writes t.writes) q
    at q true z e f =
        let v = q.var in
        cond-true (has t.writes v) (t.arrays q) _ e
        ∙ sym (cond-true (has (bit_or o.writes t.writes) v) (t.arrays q) (n q) (in_right o.writes t.writes v e))
    at q false true e f =
        let v = q.var in
        cond-false (has t.writes v) (t.arrays q) _ e ∙ cond-true (has o.writes v) (o.arrays q) (n q) f ∙ sym (kept q e)
        ∙ sym (cond-true (has (bit_or o.writes t.writes) v) (t.arrays q) (n q) (in_left o.writes t.writes v f))
    at q false false e f =
        let v = q.var in
        cond-false (has t.writes v) (t.arrays q) _ e ∙ cond-false (has o.writes v) (o.arrays q) (n q) f
        ∙ sym (cond-false (has (bit_or o.writes t.writes) v) (t.arrays q) (n q) (has-or_neither o.writes t.writes v f e))

abbrev behind_first : (Meaning → Option Meaning) → Option Meaning → Option Meaning
behind_first g x = option_and_then (λ o. option_map (logged o.reads o.writes) (g o)) x

second-follows : (m n : Arrays) (o : Meaning) (g : Meaning → Option Meaning) (x y : Option Meaning) → ((q : Place) → Keeps m q o) → (AgreesOn (logs o) m n → x ≡ Some (from n o))
    → ((q : Place) → IfDefined (Keeps o.arrays q) y) → Follows o.arrays (taken n o.arrays o.writes) y (g (from n o))
    → Follows m n (option_map (logged o.reads o.writes) y) (behind_first g x)
second-follows m n o g x None kept first kept' second = tt
second-follows m n o g x (Some t) kept first kept' second = λ agrees.
    ap (behind_first g) (first (λ q l. agrees q (logs_left o.reads t.reads o.writes t.writes q.var l)))
    ∙ ap (option_map (logged o.reads o.writes)) (second (λ q l. at q (agrees q (logs_right o.reads t.reads o.writes t.writes q.var l)) (has o.writes q.var) refl))
    ∙ ap Some (logged-from n o t kept')
  where
    at : (q : Place) → n q ≡ m q → (z : Bool) → has o.writes q.var ≡ z → taken n o.arrays o.writes q ≡ o.arrays q
    at q same true f = cond-true (has o.writes q.var) (o.arrays q) (n q) f
    at q same false f = cond-false (has o.writes q.var) (o.arrays q) (n q) f ∙ same ∙ sym (kept q f)

seq-follows : (m n : Arrays) (g : Meaning → Option Meaning) (a x : Option Meaning) → ((q : Place) → IfDefined (Keeps m q) a) → Follows m n a x
    → ((o : Meaning) (q : Place) → IfDefined (Keeps o.arrays q) (g o)) → ((o : Meaning) → Follows o.arrays (taken n o.arrays o.writes) (g o) (g (from n o)))
    → Follows m n (behind_first g a) (behind_first g x)
seq-follows m n g None x kept first kept' second = tt
seq-follows m n g (Some o) x kept first kept' second = second-follows m n o g x (g o) kept first (kept' o) (second o)

-- ---- a choice
choice-follows : (r : ℕ) (m n : Arrays) (a x : Option Meaning) → (AgreesOn r m n → Follows m n a x) → Follows m n (option_map (logged r 0) a) (option_map (logged r 0) x)
choice-follows r m n None x h = tt
choice-follows r m n (Some o) x h = λ agrees.
    ap (option_map (logged r 0)) (h (λ q l. agrees q (in_left (bit_or r o.reads) (bit_or 0 o.writes) q.var (in_left r o.reads q.var l))) (λ q l. agrees q (logs_right r o.reads 0 o.writes q.var l)))
    ∙ (λ i. Some (record { arrays = taken n o.arrays (sym (or_zero_l o.writes) i); packets = o.packets; reads = bit_or r o.reads; writes = bit_or 0 o.writes }))

either-follows : (m n : Arrays) (t : Bool) (a b x y : Option Meaning) → Follows m n a x → Follows m n b y → Follows m n (cond t a b) (cond t x y)
either-follows m n true a b x y h k = h
either-follows m n false a b x y h k = k

-- ---- policies
pub follows : (p : Pol) (m n : Arrays) (k : List ℕ) → Follows m n (eval p m k) (eval p n k)
follows (Filter x) m n k = λ agrees. λ i.
    Some (record { arrays = nothing_taken n m i; packets = cond (truth-agrees x m n k (λ q l. agrees q (in_left (vars_of x) 0 q.var l)) i) (with_packet no_packets k) no_packets; reads = vars_of x; writes = 0 })
follows (Set c a) m n k = λ agrees. λ i.
    Some (record { arrays = nothing_taken n m i; packets = with_packet no_packets (Rattle.std.specs.Prelude.slice_set k c (value_of a k)); reads = 0; writes = 0 })
follows (Change u) m n k = λ agrees. λ i.
    Some (record { arrays = update-agrees u m n k (λ q l. agrees q (in_right 0 (2 ^ u.var) q.var l)) i; packets = with_packet no_packets k; reads = 0; writes = 2 ^ u.var })
follows (Par' _ a _ b) m n k =
    subst (λ x. Follows m n x (all_together n (eval a n k ∷ eval b n k ∷ []))) (sym (both_together m a b k))
    (subst (Follows m n (beside (eval a m k) (eval b m k))) (sym (both_together n a b k))
    (beside-follows m n (eval a m k) (eval b m k) (eval a n k) (eval b n k) (follows a m n k) (follows b m n k)))
follows (Seq' _ a _ b) m n k =
    seq-follows m n (λ o. all_together o.arrays (map (λ k'. eval b o.arrays k') (listed o.packets))) (eval a m k) (eval a n k) (keeps a m k) (follows a m n k)
    (λ o q. all_together_keeps o.arrays q (all_defined (map (λ k'. eval b o.arrays k') (listed o.packets))))
    (λ o. each-follows b o.arrays (taken n o.arrays o.writes) (λ k'. follows b o.arrays (taken n o.arrays o.writes) k') (listed o.packets))
follows (If' x _ a _ b) m n k =
    choice-follows (vars_of x) m n (cond (truth x m k) (eval a m k) (eval b m k)) (cond (truth x n k) (eval a n k) (eval b n k))
    (λ agrees. subst (λ t. Follows m n (cond (truth x m k) (eval a m k) (eval b m k)) (cond t (eval a n k) (eval b n k))) (sym (truth-agrees x m n k agrees))
    (either-follows m n (truth x m k) (eval a m k) (eval b m k) (eval a n k) (eval b n k) (follows a m n k) (follows b m n k)))
follows (Atomic' _ a) m n k = follows a m n k
