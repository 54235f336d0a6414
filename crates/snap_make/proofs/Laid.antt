-- Rows that are laid out by switch and number: what stands at each pair.
use Rattle.std.proofs.Common.{◌≡◌, ℕ, ◌<◌, map, Option, Some, sym, ap, subst, ◌∙◌}
use Rattle.std.specs.Prelude.{slice_get}
use Rattle.std.specs.List.{All}
use Rattle.std.specs.List.Sorted.{IsStrictlySortedBy}
use Rattle.snap_rows.specs.declared.tables.RowAt.{RowAt}
use Rattle.snap_rows.specs.declared.tables.Tables.{Tables}
use Rattle.snap_rows.specs.declared.tables.Row.{Row}
use Rattle.snap_rows.specs.Entries.{row_at}
use Rattle.snap_rows.specs.Form.{IsRowWellFormed, IsRowAtWellFormed, switch_count, row_cmp}
use Rattle.snap_make.specs.Pairs.{row_entry, at_switches}
use Rattle.snap_make.proofs.Entries.{found, row_found, each_at, Planned, all_planned, found_is, entry_cmp, switches_sorted, unmapped_sorted}
use Rattle.snap_make.proofs.Outlining.{from_get}

module _ (n : Tables) (plan : ℕ → ℕ → Option Row) (many : ℕ) (rows : map row_entry n.rows ≡ at_switches plan (switch_count n) many) where
  row_each : (i : ℕ) (r : RowAt) → slice_get n.rows i ≡ Some r → Planned plan many (switch_count n) (row_entry r)
  row_each i r e = each_at row_entry (Planned plan many (switch_count n)) n.rows i r (subst (All (Planned plan many (switch_count n))) (sym rows) (all_planned plan many (switch_count n))) e

  pub rows_rise : IsStrictlySortedBy row_cmp n.rows
  rows_rise = unmapped_sorted row_entry n.rows (subst (IsStrictlySortedBy entry_cmp) (sym rows) (switches_sorted plan (switch_count n) many))

  pub rows_form : ((w i : ℕ) (b : Row) → plan w i ≡ Some b → IsRowWellFormed n b) → All (IsRowAtWellFormed n) n.rows
  rows_form form = from_get (IsRowAtWellFormed n) n.rows (λ i r e. (let x = row_each i r e in record { at = x.0; row = form r.at r.number r.row x.2 }))

  module _ (low : (w i : ℕ) (b : Row) → plan w i ≡ Some b → (w < switch_count n) × (i < many)) where
    pub row_at_is : (w i : ℕ) → row_at n w i ≡ plan w i
    row_at_is w i = row_found n.rows w i ∙ ap (λ l. found l w i) rows ∙ found_is plan many (switch_count n) low w i

    pub once : (i : ℕ) (r : RowAt) → slice_get n.rows i ≡ Some r → row_at n r.at r.number ≡ Some r.row
    once i r e = row_at_is r.at r.number ∙ (row_each i r e).2
