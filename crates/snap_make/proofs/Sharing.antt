-- Rows that share their bodies are the planned ones.
use Rattle.std.proofs.Common.{◌≡◌, ℕ, ◌<◌, ⊎_elim, Bool, false, List, map, length, get_or, Option, Some, None, refl, sym, ap, ◌∙◌, arith}
use Rattle.std.specs.Prelude.{slice_get, slice_index, slice_index_or, option_map, option_and_then, unwrap_or}
use Rattle.std.specs.List.{range_with_len}
use Rattle.std.proofs.lemmas.Bool.{cases_lt}
use Rattle.std.proofs.lemmas.List.FromFn.{get_or-map-range_with_len, length-map-range_with_len}
use Rattle.std.proofs.lemmas.Option.{slice_get-get_or, slice_get_past}
use Rattle.snap_diagrams.specs.declared.node.Node.{Node}
use Rattle.snap_diagrams.specs.declared.leaf.Leaf.{Leaf}
use Rattle.snap_rows.specs.declared.tables.Row.{Row}
use Rattle.snap_rows.specs.declared.tables.Row.TheVariants as row
use Rattle.snap_rows.specs.declared.tables.RowAt.{RowAt}
use Rattle.snap_rows.specs.declared.tables.Tables.{Tables}
use Rattle.snap_rows.proofs.Own.{past}
use Rattle.snap_faithful.specs.Generated.{numbered_nodes}
use Rattle.snap_faithful.specs.Planned.{row_for}
use Rattle.snap_faithful.specs.Shown.{row_of}
use Rattle.snap_make.specs.Fronts.{IsNumbered}
use Rattle.snap_make.specs.Pairs.{at_switches, row_entry}
use Rattle.snap_make.specs.Shares.{body_of, shown}
use Rattle.snap_make.specs.Sites.{planned}
use Rattle.snap_make.proofs.Marking.{node_is}

-- ---- the bodies of all numbers
module _ (ns : List (Node Leaf)) (ids numbers : List ℕ) (num : IsNumbered ns ids numbers) where
  pub body_is : (n : ℕ) → n < length ids → numbered_nodes ns ids (slice_index numbers) n ≡ Some (body_of ns ids numbers n)
  body_is n l =
      let at = slice_get-get_or ids n 0 l in
      let id = get_or ids n 0 in
      let low = num.numbering.nodes n id at in
      by (slice_get ns id) refl at low
    where
      by : (o : Option (Node Leaf)) → slice_get ns (get_or ids n 0) ≡ o → slice_get ids n ≡ Some (get_or ids n 0) → get_or ids n 0 < length ns → numbered_nodes ns ids (slice_index numbers) n ≡ Some (body_of ns ids numbers n)
      by None e at low = absurd (past ns (get_or ids n 0) low e)
      by (Some b) e at low =
          let is = node_is ns ids numbers num n (get_or ids n 0) at b e in
          is ∙ ap Some (sym (ap (λ o. unwrap_or o row.Stop) is))

  module _ (bodies : List Row) (are : bodies ≡ map (body_of ns ids numbers) (range_with_len 0 (length ids))) where
    pub as_many : length bodies ≡ length ids
    as_many = ap length are ∙ length-map-range_with_len (body_of ns ids numbers) 0 (length ids)

    pub numbered_is : (n : ℕ) → slice_get bodies n ≡ numbered_nodes ns ids (slice_index numbers) n
    numbered_is n = ⊎_elim
        (λ l.
        (slice_get-get_or bodies n row.Stop (let m = as_many in omega (arith, m, l))
        ∙ ap Some (ap (λ xs. get_or xs n row.Stop) are ∙ get_or-map-range_with_len (body_of ns ids numbers) 0 (length ids) n n row.Stop l (omega arith))
        ∙ sym (body_is n l)))
        (λ m.
        (slice_get_past bodies n (let k = as_many in omega (arith, k, m))
        ∙ sym (ap (option_and_then (λ d. option_map (row_of (slice_index numbers)) (slice_get ns d))) (slice_get_past ids n m))))
        (cases_lt n (length ids))

    -- shown rows are the planned ones
    pub planned_are : (t : Tables) (marks : List Bool) (many : ℕ) (rows : List RowAt) → map row_entry rows ≡ at_switches (shown t bodies marks) many (length bodies)
        → map row_entry rows ≡ at_switches (planned t ns ids numbers marks) many (length ids)
    planned_are t marks many rows shown_are =
        shown_are ∙ ap (at_switches (shown t bodies marks) many) as_many
        ∙ (λ i. at_switches (λ w n. row_for t w (slice_index_or marks n false) (numbered_is n i)) many (length ids))
