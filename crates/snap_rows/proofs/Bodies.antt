-- Rows by the places of their bodies.
use Rattle.std.proofs.Common.{◌≡◌, ◌∙◌, ℕ, zero, suc, ◌<◌, Bool, true, false, List, [], ◌∷◌, ◌++◌, Some, length, map, get_or, refl, sym, ap, subst, arith}
use Rattle.std.specs.Prelude.{option_map, slice_get}
use Rattle.std.specs.List.{All}
use Rattle.std.specs.List.Sorted.{IsPartitionPoint, IsPartitionedBy}
use Rattle.std.proofs.Math.ListN.{get_or-append}
use Rattle.std.proofs.lemmas.List.{get_or-map, get_or_push, length-map, map-append}
use Rattle.std.proofs.lemmas.List.Elements.{All-head, All-tail}
use Rattle.std.proofs.lemmas.Option.{slice_get-map}
use Rattle.snap_rows.specs.Places.{is_before}
use Rattle.snap_rows.specs.Bodies.{IsPlaced, placed}
use Rattle.snap_rows.specs.declared.lists.Placed.{Placed}
use Rattle.snap_rows.specs.declared.tables.Row.{Row}
use Rattle.snap_rows.specs.declared.tables.Row.TheVariants.{Stop}
use Rattle.snap_rows.specs.declared.tables.RowAt.{RowAt}

pub placed_at : (bodies : List Row) (rows : List Placed) (i : ℕ) (p : Placed) → slice_get rows i ≡ Some p → slice_get (map (placed bodies) rows) i ≡ Some (placed bodies p)
placed_at bodies rows i p is = slice_get-map (placed bodies) rows i ∙ ap (option_map (placed bodies)) is

-- more bodies behind them change no row
pub placed_more : (bodies more : List Row) (p : Placed) → IsPlaced bodies p → placed (bodies ++ more) p ≡ placed bodies p
placed_more bodies more p within = ap (λ b. record { at = p.at; number = p.number; row = b }) (get_or-append bodies more Stop p.body within)

pub rows_more : (bodies more : List Row) (rows : List Placed) → All (IsPlaced bodies) rows → map (placed (bodies ++ more)) rows ≡ map (placed bodies) rows
rows_more bodies more [] within = refl
rows_more bodies more (p ∷ rest) within =
    let here = placed_more bodies more p (All-head (IsPlaced bodies) p rest within) in
    let tail = rows_more bodies more rest (All-tail (IsPlaced bodies) p rest within) in
    λ i. here i ∷ tail i

-- one more row, with a body of its own
pub rows_push : (bodies : List Row) (b : Row) (rows : List Placed) (p : Placed) → p.body ≡ length bodies → All (IsPlaced bodies) rows
    → map (placed (bodies ++ b ∷ [])) (rows ++ p ∷ []) ≡ map (placed bodies) rows ++ record { at = p.at; number = p.number; row = b } ∷ []
rows_push bodies b rows p last within =
    let before = rows_more bodies (b ∷ []) rows within in
    let own = ap (λ b. record { at = p.at; number = p.number; row = b }) (get_or_push bodies b Stop p.body (sym last)) in
    map-append (placed (bodies ++ b ∷ [])) rows (p ∷ []) ∙ (λ i. before i ++ own i ∷ [])

-- ---- searches among rows go by their places
module _ (bodies : List Row) (a b : ℕ) where
  abbrev pub by_row : RowAt → Bool
  by_row r = is_before (λ (r : RowAt). r.at) (λ (r : RowAt). r.number) a b r

  abbrev pub by_place : Placed → Bool
  by_place p = is_before (λ (p : Placed). p.at) (λ (p : Placed). p.number) a b p

  pub parted_places : (rows : List Placed) → IsPartitionedBy by_row (map (placed bodies) rows) → IsPartitionedBy by_place rows
  parted_places rows parted i j d le within before =
      let there = λ (k : ℕ) (l : k < length rows). get_or-map (placed bodies) rows k d (placed bodies d) l in
      let long = length-map rows (placed bodies) in
      subst (λ (r : RowAt). by_row r ≡ true) (there i (omega (arith, le, within)))
      (parted i j (placed bodies d) le (omega (arith, within, long)) (subst (λ (r : RowAt). by_row r ≡ true) (sym (there j within)) before))

  same_side : (rows : List Placed) (j : ℕ) (r : RowAt) → by_row (get_or (map (placed bodies) rows) j r) ≡ by_place (get_or rows j (record { number = r.number; at = r.at; body = 0 }))
  same_side [] zero r = refl
  same_side [] (suc j) r = refl
  same_side (p ∷ rest) zero r = refl
  same_side (p ∷ rest) (suc j) r = same_side rest j r

  pub point_of_places : (rows : List Placed) (k : ℕ) → IsPartitionPoint (λ p. by_place p ≡ true) (λ p. by_place p ≡ false) rows k
      → IsPartitionPoint (λ r. by_row r ≡ true) (λ r. by_row r ≡ false) (map (placed bodies) rows) k
  point_of_places rows k point =
      let long = length-map rows (placed bodies) in (
        λ j r low high. same_side rows j r ∙ point.0 j (record { number = r.number; at = r.at; body = 0 }) low high,
        λ j r low high. same_side rows j r ∙ point.1 j (record { number = r.number; at = r.at; body = 0 }) low (omega (arith, high, long)),
      )
