-- The order of places, and which places are the same.
use Rattle.std.proofs.Common.{◌≡◌, ℕ, Bool, true, false, ◌&&◌, List, refl, ap, ◌∙◌}
use Rattle.std.specs.Prelude.{nat_eq}
use Rattle.std.specs.Ordering.{nat_cmp}
use Rattle.std.specs.Str.{bytes_eq}
use Rattle.std.specs.Cmp.{IsEquivalence, IsTotalOrder}
use Rattle.std.specs.Cmp.Lexicographic.{slice_cmp, bytes_decides, nat_list_eq_equiv}
use Rattle.std.specs.declared.cmp.Ordering.TheVariants.{Equal}
use Rattle.std.proofs.lemmas.Bool.{eqb-true, eq-eqb, and_parts, and_left, and_right}
use Rattle.std.proofs.lemmas.Cmp.{nat_eq_equiv, nat_cmp_total, nat_list_cmp_total, on_total, then_total}
use Rattle.std.proofs.lemmas.Map.Lookups.{exact_unsigned, exact_bytes, exact_pairs}
use Rattle.snap_core.specs.declared.place.Place.{Place}
use Rattle.snap_core.specs.Arrays.{same_place}
use Rattle.snap_core.specs.Listing.{place_cmp}

-- ---- the order
pub place_total : IsTotalOrder place_cmp
place_total = then_total (on_total (λ (p : Place). p.var) nat_cmp_total) (on_total (λ (p : Place). p.index) nat_list_cmp_total)

abbrev from_pair : ℕ × List ℕ → Place
from_pair t = record { var = t.0; index = t.1 }

pub place_exact : (p q : Place) → place_cmp p q ≡ Equal → p ≡ q
place_exact p q h = ap from_pair (exact_pairs nat_cmp (slice_cmp nat_cmp) exact_unsigned exact_bytes (p.var, p.index) (q.var, q.index) h)

-- ---- the same place
pub same_key : (x y : List ℕ) → bytes_eq x y ≡ true → x ≡ y
same_key x y = (bytes_decides x y).0

pub same_place-exact : (p q : Place) → same_place p q ≡ true → p ≡ q
same_place-exact p q h =
    let parts = and_parts (nat_eq p.var q.var) (bytes_eq p.index q.index) h in
    let var : p.var ≡ q.var = eqb-true p.var q.var parts.0 in
    let index : p.index ≡ q.index = same_key p.index q.index parts.1 in
    λ i. record { var = var i; index = index i }

pub same_place-itself : (p : Place) → same_place p p ≡ true
same_place-itself p = ap (λ t. t && bytes_eq p.index p.index) (eq-eqb p.var p.var refl) ∙ nat_list_eq_equiv.refl p.index

pub same_place-flips : (p q : Place) → same_place p q ≡ same_place q p
same_place-flips p q = both (nat_eq_equiv.symm p.var q.var) (nat_list_eq_equiv.symm p.index q.index)
  where
    both : {a b c d : Bool} → a ≡ c → b ≡ d → (a && b) ≡ (c && d)
    both e f = λ i. e i && f i

pub same_place_equiv : IsEquivalence same_place
same_place_equiv = record { refl = same_place-itself; symm = same_place-flips; congr = λ p q r h. ap (λ x. same_place x r) (same_place-exact p q h) }

-- places of different variables, and of different indices
pub apart-var : (s : ℕ) (ix : List ℕ) (p : Place) → nat_eq s p.var ≡ false → same_place (record { var = s; index = ix }) p ≡ false
apart-var s ix p h = and_left (nat_eq s p.var) _ h

pub apart-index : (s : ℕ) (ix : List ℕ) (p : Place) → bytes_eq ix p.index ≡ false → same_place (record { var = s; index = ix }) p ≡ false
apart-index s ix p h = and_right (nat_eq s p.var) (bytes_eq ix p.index) h
