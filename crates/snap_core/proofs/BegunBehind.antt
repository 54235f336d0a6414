-- Parts side by side may be done one after the other.
use Rattle.std.proofs.Common.{◌≡◌, ℕ, Bool, true, false, cond, List, [], ◌∷◌, Option, Some, None, refl, sym, ap, subst, ◌∙◌, bit_or}
use Rattle.std.specs.Prelude.{option_and_then, unwrap_or}
use Rattle.std.proofs.lemmas.Bool.{or_parts, both_ways}
use Rattle.snap_core.specs.declared.place.Place.{Place}
use Rattle.snap_core.specs.declared.policy.Pol.{Pol}
use Rattle.snap_core.specs.Arrays.{Arrays, has, meets}
use Rattle.snap_core.specs.Laws.{AgreesOn}
use Rattle.snap_core.specs.Packets.{AllLong, union}
use Rattle.snap_core.specs.Meaning.{Meaning, clash, joined, beside, all_together, eval}
use Rattle.snap_core.specs.Runs.{after_both, begun_behind}
use Rattle.snap_core.proofs.EvalLemmas.{both_together}
use Rattle.snap_core.proofs.Framed.{Follows, follows, from}
use Rattle.snap_core.proofs.Kept.{Keeps, IfDefined, keeps}
use Rattle.snap_core.proofs.Lengths.{AllLong-union}
use Rattle.snap_core.proofs.Together.{both_have}
use Rattle.snap_core.proofs.Unwritten.{neither}

-- what doesn't clash with an outcome sees the arrays as they were before it
unseen : (m : Arrays) (a o : Meaning) → ((q : Place) → Keeps m q a) → clash a o ≡ false → (q : Place) → has (bit_or o.reads o.writes) q.var ≡ true → a.arrays q ≡ m q
unseen m a o kept apart q logged = kept q (by_write (has a.writes q.var) refl)
  where
    by_write : (t : Bool) → has a.writes q.var ≡ t → has a.writes q.var ≡ false
    by_write true e = absurd (both_ways _ (or_parts (meets a.writes (bit_or o.reads o.writes)) _ apart).0 (both_have a.writes (bit_or o.reads o.writes) q.var e logged))
    by_write false e = e

pub keeps_it : (p : Pol) (m : Arrays) (k : List ℕ) (o : Meaning) (q : Place) → eval p m k ≡ Some o → Keeps m q o
keeps_it p m k o q e = subst (IfDefined (Keeps m q)) e (keeps p m k q)

is_none : (o : Meaning) → None ≡ Some o → ⊥
is_none o e = cc

module _ (m : Arrays) (a : Meaning) (kept : (q : Place) → Keeps m q a) where
  undefined : (t : Meaning) (c : Bool) → clash a t ≡ c → (AgreesOn (bit_or t.reads t.writes) a.arrays m → None ≡ Some (from m t)) → None ≡ begun_behind a t
  undefined t true e back = sym (ap (λ s. cond s None (Some (after_both a t))) e)
  undefined t false e back = absurd (is_none _ (back (λ q l. sym (unseen m a t kept e q l))))

  clashes : (o t : Meaning) (c : Bool) → clash a t ≡ c → clash a o ≡ true → (AgreesOn (bit_or t.reads t.writes) a.arrays m → Some o ≡ Some (from m t)) → None ≡ begun_behind a t
  clashes o t true e both back = sym (ap (λ s. cond s None (Some (after_both a t))) e)
  clashes o t false e both back =
      absurd (both_ways (clash a t) e (sym (ap (λ x. clash a (unwrap_or x t)) (back (λ q l. sym (unseen m a t kept e q l)))) ∙ both))

  defined : (o : Meaning) (y : Option Meaning) (c : Bool) → clash a o ≡ c → Follows m a.arrays (Some o) y → Follows a.arrays m y (Some o) → beside (Some a) (Some o) ≡ option_and_then (begun_behind a) y
  defined o y false e on back =
      ap (λ s. cond s None (Some (joined a o))) e
      ∙ sym (ap (option_and_then (begun_behind a)) (on (unseen m a o kept e)) ∙ ap (λ s. cond s None (Some (after_both a (from a.arrays o)))) e)
  defined o None true e on back = ap (λ s. cond s None (Some (joined a o))) e
  defined o (Some t) true e on back = ap (λ s. cond s None (Some (joined a o))) e ∙ clashes o t (clash a t) refl e back

  any : (x y : Option Meaning) → Follows m a.arrays x y → Follows a.arrays m y x → beside (Some a) x ≡ option_and_then (begun_behind a) y
  any None None on back = refl
  any None (Some t) on back = undefined t (clash a t) refl back
  any (Some o) y on back = defined o y (clash a o) refl on back

  -- a policy beside an outcome: it may begin where that left the arrays
  pub beside-begun_behind : (p : Pol) (k : List ℕ) → beside (Some a) (eval p m k) ≡ option_and_then (begun_behind a) (eval p a.arrays k)
  beside-begun_behind p k = any (eval p m k) (eval p a.arrays k) (follows p m a.arrays k) (follows p a.arrays m k)

-- the first of two parts side by side, and the other behind it
pub both_begun : (m : Arrays) (p q : Pol) (k : List ℕ) (a : Meaning) → eval p m k ≡ Some a → all_together m (eval p m k ∷ eval q m k ∷ []) ≡ option_and_then (begun_behind a) (eval q a.arrays k)
both_begun m p q k a ran = both_together m p q k ∙ ap (λ o. beside o (eval q m k)) ran ∙ beside-begun_behind m a (λ r. keeps_it p m k a r ran) q k

-- ---- what stays
module _ (a b c : Meaning) where
  packets-begun_behind : (t : Bool) → cond t None (Some (after_both a b)) ≡ Some c → c.packets ≡ union a.packets b.packets
  packets-begun_behind true e = cc
  packets-begun_behind false e = ap (λ o. (unwrap_or o c).packets) (sym e)

  pub AllLong-begun_behind : (n : ℕ) → begun_behind a b ≡ Some c → AllLong n a.packets → AllLong n b.packets → AllLong n c.packets
  AllLong-begun_behind n e x y = subst (AllLong n) (sym (packets-begun_behind (clash a b) e)) (AllLong-union n a.packets b.packets x y)

  keeps_behind : (m : Arrays) (q : Place) → Keeps m q a → Keeps a.arrays q b → (t : Bool) → cond t None (Some (after_both a b)) ≡ Some c → Keeps m q c
  keeps_behind m q first second true e = cc
  keeps_behind m q first second false e =
      subst (λ o. Keeps m q (unwrap_or o c)) e (λ h. let parts = neither a.writes b.writes q.var h in second parts.1 ∙ first parts.0)

  pub Keeps-begun_behind : (m : Arrays) (q : Place) → begun_behind a b ≡ Some c → Keeps m q a → Keeps a.arrays q b → Keeps m q c
  Keeps-begun_behind m q e first second = keeps_behind m q first second (clash a b) e
