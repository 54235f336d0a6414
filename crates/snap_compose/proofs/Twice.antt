-- An outcome that writes nothing, taken twice beside others.
use Rattle.std.proofs.Common.{◌≡◌, ℕ, Bool, true, false, cond, ◌||◌, Option, Some, None, refl, sym, ap, ◌∙◌, bit_or}
use Rattle.std.proofs.lemmas.Bool.{or_from}
use Rattle.std.specs.FinMap.{contains_key}
use Rattle.std.specs.Int.Bits.{or_self}
use Rattle.snap_core.specs.Arrays.{has, meets}
use Rattle.snap_core.specs.Packets.{PacketSet, union}
use Rattle.snap_core.specs.Meaning.{Meaning, clash, joined, beside}
use Rattle.snap_core.proofs.PacketSets.{same_packets, contains-union}
use Rattle.snap_core.proofs.Together.{or_assoc, clash-joined}

-- it isn't defined, or writes nothing
abbrev pub IsIdle : Option Meaning → Type 0
IsIdle None = Unit {0}
IsIdle (Some o) = o.writes ≡ 0

idle_clash : (o : Meaning) → o.writes ≡ 0 → clash o o ≡ false
idle_clash o h = ap (λ w. meets w (bit_or o.reads o.writes) || meets w (bit_or o.reads o.writes)) h

or_twice : (a b : Bool) → ((a || b) || b) ≡ (a || b)
or_twice true b = refl
or_twice false true = refl
or_twice false false = refl

union_twice : (s t : PacketSet) → union (union s t) t ≡ union s t
union_twice s t = same_packets _ _ (λ q.
    contains-union (union s t) t q ∙ ap (λ b. b || contains_key t q) (contains-union s t q) ∙ or_twice (contains_key s q) (contains_key t q) ∙ sym (contains-union s t q))

bits_twice : (a b : ℕ) → bit_or (bit_or a b) b ≡ bit_or a b
bits_twice a b = sym (or_assoc a b b) ∙ ap (bit_or a) (or_self b)

cond_twice : (b : Bool) (x y : ℕ) → cond b x (cond b x y) ≡ cond b x y
cond_twice true x y = refl
cond_twice false x y = refl

joined_twice : (u o : Meaning) → joined (joined u o) o ≡ joined u o
joined_twice u o = λ i. record {
  arrays = λ p. cond_twice (has o.writes p.var) (o.arrays p) (u.arrays p) i;
  packets = union_twice u.packets o.packets i;
  reads = bits_twice u.reads o.reads i;
  writes = bits_twice u.writes o.writes i;
}

pub beside_twice : (a x : Option Meaning) → IsIdle x → beside (beside a x) x ≡ beside a x
beside_twice None x h = refl
beside_twice (Some u) None h = refl
beside_twice (Some u) (Some o) h = by (clash u o) refl
  where
    by : (t : Bool) → clash u o ≡ t → beside (beside (Some u) (Some o)) (Some o) ≡ beside (Some u) (Some o)
    by true e =
        ap (λ z. beside (cond z None (Some (joined u o))) (Some o)) e
        ∙ sym (ap (λ z. cond z None (Some (joined u o))) e)
    by false e =
        ap (λ z. beside (cond z None (Some (joined u o))) (Some o)) e
        ∙ ap (λ z. cond z None (Some (joined (joined u o) o))) (clash-joined u o o ∙ or_from _ _ e (idle_clash o h))
        ∙ ap Some (joined_twice u o)
        ∙ sym (ap (λ z. cond z None (Some (joined u o))) e)
