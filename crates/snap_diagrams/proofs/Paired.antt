-- What is kept for two numbers each, after a change.
use Rattle.std.proofs.Common.{◌≡◌, ℕ, Bool, true, false, cond, ◌&&◌, List, [], ◌∷◌, Option, Some, refl, sym, ap, subst, ◌∙◌}
use Rattle.std.specs.Prelude.{nat_eq}
use Rattle.std.specs.Str.{bytes_eq}
use Rattle.std.specs.Map.{lookup, KeepsOthers}
use Rattle.std.specs.Cmp.Lexicographic.{nat_list_eq_equiv}
use Rattle.std.proofs.lemmas.Bool.{cond-true, cond-false}
use Rattle.std.proofs.lemmas.Slice.Eq.{bytes_eq-Decides}
use Rattle.std.proofs.Math.Bool.{and-true}
use Rattle.snap_core.specs.Cells.{Cells, cell, either, beside}
use Rattle.snap_core.proofs.Beside.{cell-beside}
use Rattle.snap_core.proofs.CellLemmas.{bytes_eq-other}
use Rattle.snap_core.proofs.Pairs.{pair_eq}
use Rattle.snap_diagrams.specs.Memos.{paired}

abbrev two : ℕ × ℕ → List ℕ
two k = k.0 ∷ k.1 ∷ []

pair_eq-bytes_eq : (x y : ℕ × ℕ) → pair_eq x y ≡ bytes_eq (two x) (two y)
pair_eq-bytes_eq x y = ap (λ b. nat_eq x.0 y.0 && b) (sym (and-true (nat_eq x.1 y.1)))

cell-paired_any : (q : List ℕ) (es : List ((ℕ × ℕ) × ℕ)) → lookup (λ k. bytes_eq q (two k)) es ≡ cell (paired es) q
cell-paired_any q [] = refl
cell-paired_any q (e ∷ es) = ap (cond (bytes_eq q (two e.0)) (Some e.1)) (cell-paired_any q es)

cell-paired : (k : ℕ × ℕ) (es : List ((ℕ × ℕ) × ℕ)) → lookup (pair_eq k) es ≡ cell (paired es) (two k)
cell-paired k es = (λ i. lookup (λ l. pair_eq-bytes_eq k l i) es) ∙ cell-paired_any (two k) es

pub cell-paired_update : (k : ℕ × ℕ) (es fs : List ((ℕ × ℕ) × ℕ)) (w : Option ℕ) → lookup (pair_eq k) fs ≡ w → KeepsOthers pair_eq (pair_eq k) es fs → (q : List ℕ) → cell (paired fs) q ≡ cond (bytes_eq (two k) q) w (cell (paired es) q)
unfolding KeepsOthers
cell-paired_update k es fs w here others q = by (bytes_eq (two k) q) refl
  where
    by : (b : Bool) → bytes_eq (two k) q ≡ b → cell (paired fs) q ≡ cond (bytes_eq (two k) q) w (cell (paired es) q)
    by true t = subst (λ (r : List ℕ). cell (paired fs) r ≡ w) ((bytes_eq-Decides (two k) q).0 t) (sym (cell-paired k fs) ∙ here) ∙ sym (cond-true (bytes_eq (two k) q) _ _ t)
    by false f =
        sym (cell-paired_any q fs)
        ∙ others (λ l. bytes_eq q (two l)) (λ x y e. nat_list_eq_equiv.congr q (two x) (two y) e ∙ sym (pair_eq-bytes_eq x y)) (λ l e. bytes_eq-other (two k) q (two l) f (sym (pair_eq-bytes_eq k l) ∙ e))
        ∙ cell-paired_any q es
        ∙ sym (cond-false (bytes_eq (two k) q) _ _ f)

-- in front of other cells: what is found there, or else among these
pub cell-paired_beside : (k : ℕ × ℕ) (es : List ((ℕ × ℕ) × ℕ)) (back : Cells) (found : Option ℕ) → lookup (pair_eq k) es ≡ found → cell (beside (paired es) back) (two k) ≡ either found (cell back (two k))
cell-paired_beside k es back found is = cell-beside (paired es) back (two k) ∙ ap (λ o. either o (cell back (two k))) (sym (cell-paired k es) ∙ is)

-- what is written in front of other cells counts before these, too
pub cell-beside_update : (b : Bool) (n : ℕ) (new old back : Cells) (q : List ℕ) → cell new q ≡ cond b (Some n) (cell old q) → cell (beside new back) q ≡ cond b (Some n) (cell (beside old back) q)
cell-beside_update b n new old back q is =
    cell-beside new back q
    ∙ ap (λ o. either o (cell back q)) is
    ∙ elim b as (λ t. either (cond t (Some n) (cell old q)) (cell back q) ≡ cond t (Some n) (either (cell old q) (cell back q))) [ true ↦ refl | false ↦ refl ]
    ∙ ap (cond b (Some n)) (sym (cell-beside old back q))
