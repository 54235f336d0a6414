-- Variables that are not written.
use Rattle.std.proofs.Common.{◌≡◌, ℕ, ◌^◌, false, List, ap, arith, bit_or}
use Rattle.std.specs.Prelude.{nat_eq}
use Rattle.std.specs.Int.{bit_at}
use Rattle.std.proofs.lemmas.Bool.{eqb-false, ne_eqb, and_left, cond-false}
use Rattle.std.proofs.lemmas.Nat.Bits.{bit_at_or, bit_at-lt, bit_at-pow_same}
use Rattle.snap_core.specs.declared.place.Place.{Place}
use Rattle.snap_core.specs.declared.policy.Update.{Update}
use Rattle.snap_core.specs.Arrays.{Arrays, same_place, place_at, update, has}

pub no_bit : (n v : ℕ) → has n v ≡ false → bit_at n v ≡ 0
no_bit n v h = let l = bit_at-lt n v in let ne = eqb-false (bit_at n v) 1 h in omega (arith, l, ne)

pub without : (n v : ℕ) → bit_at n v ≡ 0 → has n v ≡ false
without n v e = ne_eqb (bit_at n v) 1 (λ f. absurd (omega (arith, e, f)))

-- a variable that is in neither of two sets
pub neither : (a b v : ℕ) → has (bit_or a b) v ≡ false → (has a v ≡ false) × (has b v ≡ false)
neither a b v h =
    let e = no_bit (bit_or a b) v h in let o = bit_at_or a b v in
    (without a v (omega (arith, e, o)), without b v (omega (arith, e, o)))

pub updated_keeps : (u : Update) (m : Arrays) (k : List ℕ) (q : Place) → has (2 ^ u.var) q.var ≡ false → update m u k q ≡ m q
updated_keeps u m k q h =
    let other : nat_eq u.var q.var ≡ false = ne_eqb u.var q.var (λ e. let same = bit_at-pow_same u.var in let none = no_bit (2 ^ u.var) q.var h in absurd (omega (arith, ap (λ v. bit_at (2 ^ u.var) v) e, same, none))) in
    cond-false (same_place (place_at u.var u.index k) q) _ (m q) (and_left (nat_eq u.var q.var) _ other)
