-- Lists of numbers are compared a part at a time.
use Rattle.std.proofs.Common.{◌≡◌, ◌==◌, ℕ, ◌+◌, false, List, [], ◌∷◌, ◌++◌, length, refl, sym, ap, arith}
use Rattle.std.specs.Ordering.{nat_cmp, ordering_then}
use Rattle.std.specs.Cmp.{nat_cmp_is}
use Rattle.std.specs.Cmp.Lexicographic.{slice_cmp}
use Rattle.std.specs.declared.cmp.Ordering.TheVariants.{Less}
use Rattle.snap_core.specs.declared.policy.Atom.{Atom}
use Rattle.snap_core.specs.declared.policy.Atom.TheVariants.{Num as Number, Comp}
use Rattle.snap_diagrams.specs.Codes.{index_code}

-- no atoms before some
pub shorter : (xs ys : List Atom) (s t : List ℕ) → length xs ≡ 0 → (length ys == 0) ≡ false → slice_cmp nat_cmp (index_code xs ++ s) (index_code ys ++ t) ≡ Less
shorter [] [] s t e f = absurd (cc)
shorter [] (Number n ∷ ys) s t e f = refl
shorter [] (Comp c ∷ ys) s t e f = ap (λ o. ordering_then o (slice_cmp nat_cmp s (index_code ys ++ t))) (sym (nat_cmp_is 0 (c + 2) Less (omega arith)))
shorter (x ∷ xs) ys s t e f = absurd (grind arith)
