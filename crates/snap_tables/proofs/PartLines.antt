-- The lines of rows, made of parts, are the lines of the rows.
use Rattle.std.proofs.Common.{◌≡◌, ℕ, suc, ◌<◌, Bool, true, false, cond, List, [], ◌∷◌, ◌++◌, map, length, codes, decimal, refl, sym, ap, subst, ◌∙◌, arith, append_assoc, append-nil}
use Rattle.std.specs.Prelude.{nat_eq, slice_index, slice_index_or}
use Rattle.std.specs.List.{All, flat_map, range_with_len}
use Rattle.std.proofs.lemmas.Bool.{eqb-true}
use Rattle.std.proofs.lemmas.List.{get_or-map, length-map}
use Rattle.std.proofs.lemmas.List.FromFn.{get_or-map-range_with_len}
use Rattle.snap_rows.specs.Bodies.{IsPlaced, placed}
use Rattle.snap_rows.specs.declared.lists.Placed.{Placed}
use Rattle.snap_rows.specs.declared.tables.Row.{Row}
use Rattle.snap_rows.specs.declared.tables.Row.TheVariants.{Stop}
use Rattle.snap_rows.specs.declared.tables.RowAt.{RowAt}
use Rattle.snap_rows.specs.declared.tables.Tables.{Tables}
use Rattle.snap_rows.specs.Form.{IsWellFormed, IsRowAtWellFormed, switch_count}
use Rattle.snap_tables.specs.RowParts.{ending_of, ending_text, front_text, placed_line}
use Rattle.snap_tables.specs.Text.{row_line, row_words, spaced, text, text_with}
use Rattle.snap_tables.specs.declared.row_parts.RowParts.{RowParts}

regroup : (r x y z : List ℕ) → r ++ ((x ++ y) ++ z) ≡ (r ++ (x ++ [])) ++ (y ++ z)
regroup r x y z = ap (λ l. r ++ l) (append_assoc x y z) ∙ sym (append_assoc r x (y ++ z)) ∙ ap (λ l. (r ++ l) ++ (y ++ z)) (sym (append-nil x))

-- a row's line is a front and an ending
row_line_is : (r : RowAt) → row_line r ≡ front_text r.at ++ ending_text r.number r.row
row_line_is r = regroup (codes "row") (codes " " ++ decimal r.at) (spaced (decimal r.number ∷ row_words r.row)) (codes "\n")

part_at : (texts : List (List ℕ)) (f : ℕ → List ℕ) (count n : ℕ) → texts ≡ map f (range_with_len 0 count) → n < count → slice_index_or texts n [] ≡ f n
part_at texts f count n are l = ap (λ (ts : List (List ℕ)). slice_index_or ts n []) are ∙ get_or-map-range_with_len f 0 count n n [] l (omega arith)

module _ (t : Tables) (bodies : List Row) (parts : RowParts) (fronts : parts.fronts ≡ map front_text (range_with_len 0 (switch_count t)))
    (endings : parts.endings ≡ map (ending_of parts.numbers.items bodies) (range_with_len 0 (length bodies))) where
  same_ending : (p : Placed) → IsPlaced bodies p
      → cond (nat_eq (slice_index parts.numbers.items p.body) p.number) (slice_index_or parts.endings p.body []) (ending_text p.number (slice_index_or bodies p.body Stop)) ≡ ending_text p.number (slice_index_or bodies p.body Stop)
  same_ending p within = by (nat_eq (slice_index parts.numbers.items p.body) p.number) refl
    where
      by : (b : Bool) → nat_eq (slice_index parts.numbers.items p.body) p.number ≡ b → cond b (slice_index_or parts.endings p.body []) (ending_text p.number (slice_index_or bodies p.body Stop)) ≡ ending_text p.number (slice_index_or bodies p.body Stop)
      by true e = part_at parts.endings (ending_of parts.numbers.items bodies) (length bodies) p.body endings within ∙ ap (λ n. ending_text n (slice_index_or bodies p.body Stop)) (eqb-true (slice_index parts.numbers.items p.body) p.number e)
      by false e = refl

  same_line : (p : Placed) → p.at < switch_count t → IsPlaced bodies p → placed_line parts bodies p ≡ row_line (placed bodies p)
  same_line p at within =
      let f = part_at parts.fronts front_text (switch_count t) p.at fronts at in
      (λ i. f i ++ same_ending p within i) ∙ sym (row_line_is (placed bodies p))

  same_lines : (rows : List Placed) → All (λ (p : Placed). p.at < switch_count t) rows → All (IsPlaced bodies) rows → flat_map (placed_line parts bodies) rows ≡ flat_map row_line (map (placed bodies) rows)
  same_lines [] at within = refl
  same_lines (p ∷ rest) at within =
      let head = same_line p (at 0 p (omega arith)) (within 0 p (omega arith)) in
      let tail = same_lines rest (λ i d l. at (suc i) d (omega (arith, l))) (λ i d l. within (suc i) d (omega (arith, l))) in
      λ i. head i ++ tail i

  module _ (rows : List Placed) (are : t.rows ≡ map (placed bodies) rows) (form : IsWellFormed t) (within : All (IsPlaced bodies) rows) where
    at_low : All (λ (p : Placed). p.at < switch_count t) rows
    at_low i d l =
        let e = get_or-map (placed bodies) rows i d (placed bodies d) l in
        let all = subst (All (IsRowAtWellFormed t)) are form.rows in
        subst (λ (r : RowAt). r.at < switch_count t) e (all i (placed bodies d) (let m = length-map rows (placed bodies) in omega (arith, m, l))).at

    pub same_text : text_with t (flat_map (placed_line parts bodies) rows) ≡ text t
    same_text = ap (text_with t) (same_lines rows at_low within ∙ ap (flat_map row_line) (sym are))
