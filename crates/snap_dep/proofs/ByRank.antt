-- The variables of some ranks depend on those ranks alone.
use Rattle.std.proofs.Common.{◌≡◌, ◌≢◌, ℕ, ◌<◌, ◌≤◌, ◌^◌, Bool, true, false, List, length, take, get_or, Option, Some, None, refl, sym, ◌∙◌, arith}
use Rattle.std.specs.Prelude.{nat_eq, nat_le, slice_index}
use Rattle.std.specs.List.{Contains}
use Rattle.std.proofs.lemmas.Bool.{leb-true, leb-false, le-leb, eqb-true, eqb-false, cond-true, cond_both}
use Rattle.std.proofs.lemmas.List.{get_or-take, get_or_default, length-take-le}
use Rattle.snap_core.specs.declared.place.Place.{Place}
use Rattle.snap_core.specs.declared.policy.Pol.{Pol}
use Rattle.snap_core.specs.Arrays.{Arrays}
use Rattle.snap_core.specs.Meaning.{Meaning, eval}
use Rattle.snap_core.specs.Inputs.{IsStore}
use Rattle.snap_dep.specs.Dependencies.{Depends, UsesBelow}
use Rattle.snap_dep.specs.Ranks.{Precedes, IsGroup, IsRank, IsRankIn}
use Rattle.snap_dep.specs.Locality.{ActsByRank, AgreeOn, IsClosed, cut, arrays_after}
use Rattle.snap_dep.proofs.Below.{depends_below}
use Rattle.snap_dep.proofs.Taking.{begun_groups, begun_once}
use Rattle.snap_dep.proofs.Locals.{settled, IfBoth, SettledAt}

-- ---- dependencies never lead to a lesser rank
module _ (p : Pol) (n : ℕ) (order : List ℕ) (rank : ℕ → ℕ) (fits : UsesBelow n p) (ranked : IsRank p n order) (own : IsRankIn p n order rank) where
  once_only : (i j d : ℕ) → i < length order → j < length order → get_or order i d ≡ get_or order j d → i ≤ j
  once_only i j d a b e = by_order (nat_le i j) refl
    where
      by_order : (t : Bool) → nat_le i j ≡ t → i ≤ j
      by_order true l = leb-true i j l
      by_order false l = absurd (begun_once p n order ranked.steps j i d (leb-false i j l) a (sym e))

  rising : (s t : ℕ) → Depends p s t → rank s ≤ rank t
  rising s t d = by_group (nat_eq h g) refl
    where
      sn : s < n
      sn = (depends_below n p fits s t d).0

      tn : t < n
      tn = (depends_below n p fits s t d).1

      i : ℕ
      i = rank s

      j : ℕ
      j = rank t

      h : ℕ
      h = slice_index order (rank s)

      g : ℕ
      g = slice_index order (rank t)

      precedes : Precedes p h g
      precedes = (s, t, own.group s sn, own.group t tn, d)

      is_group : IsGroup p n h
      is_group = begun_groups p n order ranked.steps h (rank s, own.below s sn, get_or_default order (rank s) _ 0 (own.below s sn))

      before : Contains (take (rank t) order) h → rank s ≤ rank t
      before f =
          let size = length-take-le (rank t) order (let l = own.below t tn in omega (arith, l)) in
          let early : f.0 < rank t = (let l = f.1 in omega (arith, size, l)) in
          let within : f.0 < length order = (let l = own.below t tn in omega (arith, l, early)) in
          let le = once_only (rank s) f.0 h (own.below s sn) within (get_or_default order (rank s) h 0 (own.below s sn) ∙ sym (sym (get_or-take (rank t) order f.0 h early) ∙ f.2)) in
          omega (arith, le, early)

      by_group : (b : Bool) → nat_eq h g ≡ b → rank s ≤ rank t
      by_group true e = once_only (rank s) (rank t) 0 (own.below s sn) (own.below t tn) (eqb-true h g e)
      by_group false e = before ((ranked.steps (rank t) (own.below t tn)).ready h is_group precedes (eqb-false h g e))

pub is_cut : (rank : ℕ → ℕ) (r : ℕ) (m : Arrays) → AgreeOn (λ v. nat_le (rank v) r) m (cut rank r m)
is_cut rank r m q e = sym (cond-true _ _ _ e)

-- numbers stay within 64 bits
pub cut_store : (rank : ℕ → ℕ) (r : ℕ) (m : Arrays) → IsStore m → IsStore (cut rank r m)
cut_store rank r m h q = cond_both (nat_le (rank q.var) r) (m q) 0 (λ x. x < 2 ^ 64) (λ e. h q) (λ e. omega arith)

defined : (m : Arrays) (q : Place) (x y : Option Meaning) → x ≢ None → y ≢ None → IfBoth (SettledAt q) x y → arrays_after m x q ≡ arrays_after m y q
defined m q None y a b h = absurd (a refl)
defined m q (Some x) None a b h = absurd (b refl)
defined m q (Some x) (Some y) a b h = h.arrays

pub acts : ActsByRank
acts = λ p cs n fits never order rank ranked own m k store packet r q within.
    let S : ℕ → Bool = λ v. nat_le (rank v) r in
    let closed : IsClosed p S = λ s t d inside. (let up = rising p n order rank fits ranked own s t d in let le = leb-true (rank t) r inside in le-leb (rank s) r (omega (arith, up, le))) in
    defined m q (eval p m k) (eval p (cut rank r m) k) (never m k store packet) (never (cut rank r m) k (cut_store rank r m store) packet)
    (settled S p closed m (cut rank r m) k (is_cut rank r m) q (le-leb (rank q.var) r within))
