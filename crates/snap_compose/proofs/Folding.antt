-- Outcomes side by side, in any order.
use Rattle.std.proofs.Common.{◌≡◌, ℕ, Bool, true, false, cond, ◌||◌, List, [], ◌∷◌, ◌++◌, Option, Some, None, refl, sym, ap, ◌∙◌, append_assoc, bit_or}
use Rattle.std.specs.Prelude.{nat_eq, not}
use Rattle.std.specs.FinMap.{contains_key}
use Rattle.std.specs.Int.Bits.{or_zero_r}
use Rattle.std.proofs.lemmas.Bool.{or_parts, both_ways, or_left, or_right, or_from}
use Rattle.std.proofs.lemmas.Nat.{or_comm, and_comm}
use Rattle.std.proofs.lemmas.Nat.Bits.{bit_at-zero}
use Rattle.std.proofs.Math.Bool.{or_comm as or_flip}
use Rattle.snap_core.specs.declared.place.Place.{Place}
use Rattle.snap_core.specs.Arrays.{Arrays, has, meets}
use Rattle.snap_core.specs.Packets.{PacketSet, union}
use Rattle.snap_core.specs.Meaning.{Meaning, clash, joined, beside, all_together}
use Rattle.snap_core.proofs.PacketSets.{same_packets, contains-union, union_assoc, none_union, union_none}
use Rattle.snap_core.proofs.Together.{both_have, or_assoc, meets-or, clash-joined, all_together-push, beside_none, cond-swap}
use Rattle.snap_compose.specs.Spread.{besides, nothing}
use Rattle.snap_dep.proofs.Sets.{has-or}

-- ---- clashes of logs
clash_flip : (a b : Meaning) → clash a b ≡ clash b a
clash_flip a b = or_flip (meets a.writes (bit_or b.reads b.writes)) (meets b.writes (bit_or a.reads a.writes))

not_both : (a c : Meaning) (v : ℕ) → clash a c ≡ false → has a.writes v ≡ true → has c.writes v ≡ true → ⊥
not_both a c v none x y =
    let no = or_parts (meets a.writes (bit_or c.reads c.writes)) (meets c.writes (bit_or a.reads a.writes)) none in
    let no' = or_parts (meets a.writes c.reads) (meets a.writes c.writes) (sym (meets-or a.writes c.reads c.writes) ∙ no.0) in
    both_ways _ no'.1 (both_have a.writes c.writes v x y)

-- ---- two outcomes beside one, in either order
or_swap : (a b c : Bool) → ((a || b) || c) ≡ ((a || c) || b)
or_swap true b c = refl
or_swap false true true = refl
or_swap false true false = refl
or_swap false false true = refl
or_swap false false false = refl

bits_swap : (a b c : ℕ) → bit_or (bit_or a b) c ≡ bit_or (bit_or a c) b
bits_swap a b c = sym (or_assoc a b c) ∙ ap (bit_or a) (or_comm b c) ∙ or_assoc a c b

joined_swap : (u x y : Meaning) → clash x y ≡ false → joined (joined u x) y ≡ joined (joined u y) x
joined_swap u x y e = λ i. record {
  arrays = λ p. cond-swap (has y.writes p.var) (has x.writes p.var) (y.arrays p) (x.arrays p) (u.arrays p) (λ a b. not_both x y p.var e b a) i;
  packets = same_packets (union (union u.packets x.packets) y.packets) (union (union u.packets y.packets) x.packets) (λ q. three u.packets x.packets y.packets q ∙ or_swap (contains_key u.packets q) (contains_key x.packets q) (contains_key y.packets q) ∙ sym (three u.packets y.packets x.packets q)) i;
  reads = bits_swap u.reads x.reads y.reads i;
  writes = bits_swap u.writes x.writes y.writes i;
}
  where
    three : (a b c : PacketSet) (q : List ℕ) → contains_key (union (union a b) c) q ≡ ((contains_key a q || contains_key b q) || contains_key c q)
    three a b c q = contains-union (union a b) c q ∙ ap (λ t. t || contains_key c q) (contains-union a b q)

-- x and y beside u
both_beside : (u x y : Meaning) (r s t : Bool) → clash u x ≡ r → clash u y ≡ s → clash x y ≡ t → beside (beside (Some u) (Some x)) (Some y) ≡ beside (beside (Some u) (Some y)) (Some x)
both_beside u x y true true t a b c =
    ap (λ z. beside (cond z None (Some (joined u x))) (Some y)) a
    ∙ sym (ap (λ z. beside (cond z None (Some (joined u y))) (Some x)) b)
both_beside u x y true false t a b c =
    ap (λ z. beside (cond z None (Some (joined u x))) (Some y)) a
    ∙ sym (ap (λ z. beside (cond z None (Some (joined u y))) (Some x)) b
    ∙ ap (λ z. cond z None (Some (joined (joined u y) x))) (clash-joined u y x ∙ or_left _ _ a))
both_beside u x y false true t a b c =
    ap (λ z. beside (cond z None (Some (joined u x))) (Some y)) a
    ∙ ap (λ z. cond z None (Some (joined (joined u x) y))) (clash-joined u x y ∙ or_left _ _ b)
    ∙ sym (ap (λ z. beside (cond z None (Some (joined u y))) (Some x)) b)
both_beside u x y false false true a b c =
    ap (λ z. beside (cond z None (Some (joined u x))) (Some y)) a
    ∙ ap (λ z. cond z None (Some (joined (joined u x) y))) (clash-joined u x y ∙ or_right _ _ c)
    ∙ sym (ap (λ z. beside (cond z None (Some (joined u y))) (Some x)) b
    ∙ ap (λ z. cond z None (Some (joined (joined u y) x))) (clash-joined u y x ∙ or_right _ _ (clash_flip y x ∙ c)))
both_beside u x y false false false a b c =
    ap (λ z. beside (cond z None (Some (joined u x))) (Some y)) a
    ∙ ap (λ z. cond z None (Some (joined (joined u x) y))) (clash-joined u x y ∙ or_from _ _ b c)
    ∙ ap Some (joined_swap u x y c)
    ∙ sym (ap (λ z. beside (cond z None (Some (joined u y))) (Some x)) b
    ∙ ap (λ z. cond z None (Some (joined (joined u y) x))) (clash-joined u y x ∙ or_from _ _ a (clash_flip y x ∙ c)))

pub beside_swap : (a x y : Option Meaning) → beside (beside a x) y ≡ beside (beside a y) x
beside_swap None x y = refl
beside_swap (Some u) None y = sym (beside_none (beside (Some u) y))
beside_swap (Some u) (Some x) None = beside_none (beside (Some u) (Some x))
beside_swap (Some u) (Some x) (Some y) = both_beside u x y _ _ _ refl refl refl

-- ---- outcomes one after another
pub besides_front : (a x : Option Meaning) (os : List (Option Meaning)) → besides (beside a x) os ≡ beside (besides a os) x
besides_front a x [] = refl
besides_front a x (o ∷ os) = ap (λ b. besides b os) (beside_swap a x o) ∙ besides_front (beside a o) x os

together-besides : (m : Arrays) (xs ys : List (Option Meaning)) → all_together m (xs ++ ys) ≡ besides (all_together m xs) ys
together-besides m xs [] = ap (all_together m) (append_none xs)
  where
    append_none : (l : List (Option Meaning)) → l ++ [] ≡ l
    append_none [] = refl
    append_none (x ∷ l) = ap (λ r. x ∷ r) (append_none l)
together-besides m xs (y ∷ ys) =
    ap (all_together m) (sym (append_assoc xs (y ∷ []) ys))
    ∙ together-besides m (xs ++ y ∷ []) ys
    ∙ ap (λ a. besides a ys) (all_together-push m xs y)

pub all_together-is : (m : Arrays) (os : List (Option Meaning)) → all_together m os ≡ besides (Some (nothing m)) os
all_together-is m os = together-besides m [] os

-- ---- outcomes grouped otherwise
nested : {A : Type 0} (s t : Bool) (x y z : A) → cond t x (cond s y z) ≡ cond (s || t) (cond t x y) z
nested true true x y z = refl
nested true false x y z = refl
nested false true x y z = refl
nested false false x y z = refl

joined_assoc : (u x y : Meaning) → joined (joined u x) y ≡ joined u (joined x y)
joined_assoc u x y = λ i. record {
  arrays = λ p. (nested (has x.writes p.var) (has y.writes p.var) (y.arrays p) (x.arrays p) (u.arrays p) ∙ ap (λ b. cond b (cond (has y.writes p.var) (y.arrays p) (x.arrays p)) (u.arrays p)) (sym (has-or x.writes y.writes p.var))) i;
  packets = union_assoc u.packets x.packets y.packets i;
  reads = sym (or_assoc u.reads x.reads y.reads) i;
  writes = sym (or_assoc u.writes x.writes y.writes) i;
}

clash-behind : (u x y : Meaning) → clash u (joined x y) ≡ (clash u x || clash u y)
clash-behind u x y = clash_flip u (joined x y) ∙ clash-joined x y u ∙ (λ i. clash_flip x u i || clash_flip y u i)

grouped : (u x y : Meaning) (r s t : Bool) → clash u x ≡ r → clash u y ≡ s → clash x y ≡ t → beside (beside (Some u) (Some x)) (Some y) ≡ beside (Some u) (beside (Some x) (Some y))
grouped u x y true s true a b c =
    ap (λ z. beside (cond z None (Some (joined u x))) (Some y)) a
    ∙ sym (ap (λ z. beside (Some u) (cond z None (Some (joined x y)))) c)
grouped u x y true s false a b c =
    ap (λ z. beside (cond z None (Some (joined u x))) (Some y)) a
    ∙ sym (ap (λ z. beside (Some u) (cond z None (Some (joined x y)))) c
    ∙ ap (λ z. cond z None (Some (joined u (joined x y)))) (clash-behind u x y ∙ or_left _ _ a))
grouped u x y false s true a b c =
    ap (λ z. beside (cond z None (Some (joined u x))) (Some y)) a
    ∙ ap (λ z. cond z None (Some (joined (joined u x) y))) (clash-joined u x y ∙ or_right _ _ c)
    ∙ sym (ap (λ z. beside (Some u) (cond z None (Some (joined x y)))) c)
grouped u x y false true false a b c =
    ap (λ z. beside (cond z None (Some (joined u x))) (Some y)) a
    ∙ ap (λ z. cond z None (Some (joined (joined u x) y))) (clash-joined u x y ∙ or_left _ _ b)
    ∙ sym (ap (λ z. beside (Some u) (cond z None (Some (joined x y)))) c
    ∙ ap (λ z. cond z None (Some (joined u (joined x y)))) (clash-behind u x y ∙ or_right _ _ b))
grouped u x y false false false a b c =
    ap (λ z. beside (cond z None (Some (joined u x))) (Some y)) a
    ∙ ap (λ z. cond z None (Some (joined (joined u x) y))) (clash-joined u x y ∙ or_from _ _ b c)
    ∙ ap Some (joined_assoc u x y)
    ∙ sym (ap (λ z. beside (Some u) (cond z None (Some (joined x y)))) c
    ∙ ap (λ z. cond z None (Some (joined u (joined x y)))) (clash-behind u x y ∙ or_from _ _ a b))

beside_assoc : (a x y : Option Meaning) → beside (beside a x) y ≡ beside a (beside x y)
beside_assoc None x y = refl
beside_assoc (Some u) None y = refl
beside_assoc (Some u) (Some x) None = beside_none (beside (Some u) (Some x))
beside_assoc (Some u) (Some x) (Some y) = grouped u x y _ _ _ refl refl refl

-- ---- halves beside each other
clash-nothing : (m : Arrays) (u : Meaning) → clash u (nothing m) ≡ false
clash-nothing m u = clash_flip u (nothing m) ∙ ap (λ n. not (nat_eq n 0)) (and_comm u.writes 0)

joined_nothing : (m : Arrays) (u : Meaning) → joined u (nothing m) ≡ u
joined_nothing m u = λ i. record {
  arrays = λ p. ap (λ b. cond (nat_eq b 1) (m p) (u.arrays p)) (bit_at-zero p.var) i;
  packets = none_union u.packets i;
  reads = or_zero_r u.reads i;
  writes = or_zero_r u.writes i;
}

-- beside nothing stays what changes no variable but those that it logs
pub nothing_beside : (m : Arrays) (u : Meaning) → ((p : Place) → has u.writes p.var ≡ false → u.arrays p ≡ m p) → beside (Some (nothing m)) (Some u) ≡ Some u
nothing_beside m u h =
    ap (λ z. cond z None (Some (joined (nothing m) u))) (clash_flip (nothing m) u ∙ clash-nothing m u)
    ∙ (λ i. Some (record { arrays = λ p. by p (has u.writes p.var) refl i; packets = union_none u.packets i; reads = u.reads; writes = u.writes }))
  where
    by : (p : Place) (t : Bool) → has u.writes p.var ≡ t → cond t (u.arrays p) (m p) ≡ u.arrays p
    by p true e = refl
    by p false e = sym (h p e)

beside_nothing : (m : Arrays) (a : Option Meaning) → beside a (Some (nothing m)) ≡ a
beside_nothing m None = refl
beside_nothing m (Some u) = ap (λ z. cond z None (Some (joined u (nothing m)))) (clash-nothing m u) ∙ ap Some (joined_nothing m u)

besides_behind : (m : Arrays) (a : Option Meaning) (os : List (Option Meaning)) → besides a os ≡ beside a (besides (Some (nothing m)) os)
besides_behind m a [] = sym (beside_nothing m a)
besides_behind m a (o ∷ os) =
    besides_front a o os
    ∙ ap (λ b. beside b o) (besides_behind m a os)
    ∙ beside_assoc a (besides (Some (nothing m)) os) o
    ∙ ap (beside a) (sym (besides_front (Some (nothing m)) o os))

besides-append : (a : Option Meaning) (xs ys : List (Option Meaning)) → besides a (xs ++ ys) ≡ besides (besides a xs) ys
besides-append a [] ys = refl
besides-append a (x ∷ xs) ys = besides-append (beside a x) xs ys

pub besides_both : (m : Arrays) (xs ys : List (Option Meaning)) → besides (Some (nothing m)) (xs ++ ys) ≡ beside (besides (Some (nothing m)) xs) (besides (Some (nothing m)) ys)
besides_both m xs ys = besides-append (Some (nothing m)) xs ys ∙ besides_behind m (besides (Some (nothing m)) xs) ys
