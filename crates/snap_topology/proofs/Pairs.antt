-- Pairs of numbers in their order.
use Rattle.std.proofs.Common.{◌≡◌, ◌∙◌, ℕ, true, ◌&&◌, nat_eq, refl, sym, ap, arith, nat_cmp, is_eq, Ordering, Less}
use Rattle.std.specs.Cmp.{IsEquivalence, IsTotalOrder}
use Rattle.std.specs.Ordering.{eq_by_cmp, ordering_then}
use Rattle.std.proofs.lemmas.Cmp.{nat_cmp_total, nat_eq_equiv, on_total, on_equiv, then_total, and_equiv}
use Rattle.std.proofs.lemmas.Bool.{and_parts, eqb-true}
use Rattle.std.proofs.Math.Path.{ap₂}
use Rattle.std.proofs.lemmas.Bool.Decides.{nat_tests}
use Rattle.snap_core.specs.Ports.{link_cmp}
use Rattle.snap_core.proofs.Pairs.{pair_eq}

pub link_cmp_total : IsTotalOrder link_cmp
link_cmp_total = then_total (on_total (λ (p : ℕ × ℕ). p.0) nat_cmp_total) (on_total (λ (p : ℕ × ℕ). p.1) nat_cmp_total)

pub pair_eq_equiv : IsEquivalence pair_eq
pair_eq_equiv = and_equiv (on_equiv (λ (p : ℕ × ℕ). p.0) nat_eq_equiv) (on_equiv (λ (p : ℕ × ℕ). p.1) nat_eq_equiv)

nat_tie : (a b : ℕ) → nat_eq a b ≡ is_eq (nat_cmp a b)
nat_tie a b = grind (arith, nat_tests)

is_eq-then : (o p : Ordering) → is_eq (ordering_then o p) ≡ (is_eq o && is_eq p)
is_eq-then Less p = refl
is_eq-then _ p = refl

pub pair_eq-link_cmp : (x y : ℕ × ℕ) → pair_eq x y ≡ eq_by_cmp link_cmp x y
pair_eq-link_cmp x y = ap (λ b. b && nat_eq x.1 y.1) (nat_tie x.0 y.0) ∙ ap (λ b. is_eq (nat_cmp x.0 y.0) && b) (nat_tie x.1 y.1) ∙ sym (is_eq-then (nat_cmp x.0 y.0) (nat_cmp x.1 y.1))

abbrev pub pair : ℕ → ℕ → ℕ × ℕ
pair a b = (a, b)

pub link_same : (x y : ℕ × ℕ) → pair_eq x y ≡ true → x ≡ y
link_same x y same =
    let parts = and_parts _ _ same in
    ap₂ pair (eqb-true _ _ parts.0) (eqb-true _ _ parts.1)
