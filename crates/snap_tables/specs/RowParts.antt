-- Parts of the lines of rows, each made once.
use Rattle.std.specs.Prelude.{ℕ, List, [], ◌∷◌, ◌++◌, ◌==◌, codes, decimal, slice_index, slice_index_or, if◌then◌else◌}
use Rattle.snap_rows.specs.declared.lists.Placed.{Placed}
use Rattle.snap_rows.specs.declared.tables.Row.{Row}
use Rattle.snap_rows.specs.declared.tables.Row.TheVariants.{Stop}
use Rattle.snap_tables.specs.Text.{row_words, spaced}
use Rattle.snap_tables.specs.declared.row_parts.RowParts.{RowParts}

-- a line up to its switch, and what stands behind that
abbrev pub front_text : (at : ℕ) → List ℕ
front_text w = codes "row" ++ spaced (decimal w ∷ [])

abbrev pub ending_text : (number : ℕ) → Row → List ℕ
ending_text n b = spaced (decimal n ∷ row_words b) ++ codes "\n"

-- that of the body at a place, in a row of its number among these
abbrev pub ending_of : (numbers : List ℕ) → List Row → ℕ → List ℕ
ending_of numbers bodies i = ending_text (slice_index numbers i) (slice_index_or bodies i Stop)

-- the line of a row, of parts by its switch and the place of its body
abbrev pub placed_line : RowParts → List Row → Placed → List ℕ
placed_line parts bodies p = slice_index_or parts.fronts p.at []
    ++ (if slice_index parts.numbers.items p.body == p.number
    then slice_index_or parts.endings p.body []
    else ending_text p.number (slice_index_or bodies p.body Stop))
