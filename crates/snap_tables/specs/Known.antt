-- Rows that were read, with their texts.
use Rattle.std.specs.Prelude.{◌≡◌, ◌<◌, ℕ, List, Option, Some, [], ◌∷◌, ◌++◌, MatchOption, length, slice_index_or}
use Rattle.std.specs.List.{All}
use Rattle.snap_rows.specs.declared.tables.ArrayAt.{ArrayAt}
use Rattle.snap_rows.specs.declared.tables.Row.{Row}
use Rattle.snap_rows.specs.declared.tables.Row.TheVariants as row
use Rattle.snap_rows.specs.declared.tables.RowAt.{RowAt}
use Rattle.snap_rows.specs.declared.tables.Tables.{Tables}
use Rattle.snap_tables.specs.Drafts.{IsNoRowLine, IsRowLine}
use Rattle.snap_tables.specs.Lines.{counts_of}
use Rattle.snap_tables.specs.Reading.{words_left}
use Rattle.snap_tables.specs.Rows.{IsNoRow, IsRowSaid}
use Rattle.snap_tables.specs.declared.draft.TablesDraft.{TablesDraft}
use Rattle.snap_tables.specs.declared.item.Body.{Body}
use Rattle.snap_tables.specs.declared.item.Body.TheVariants.{Own, Same}
use Rattle.snap_tables.specs.declared.item.NextRow.{NextRow}
use Rattle.snap_tables.specs.declared.known.Said.{Said}
use Rattle.snap_tables.specs.declared.piece.Counts.{Counts}

-- what stands in a row behind these
abbrev pub body_said : List RowAt → Body → Row
body_said rows (Own b) = b
body_said rows (Same i) = (slice_index_or rows i (record { at = 0; number = 0; row = row.Stop })).row

abbrev pub IsBody : List RowAt → Body → Type 0
IsBody rows (Own b) = Unit {0}
IsBody rows (Same i) = i < length rows

abbrev pub row_next : List RowAt → NextRow → RowAt
row_next rows r = record { at = r.at; number = r.number; row = body_said rows r.body }

-- the row at a place is what these words say
pub record IsSaidAt (v : ℕ) (k : Counts) (ranked : List ArrayAt) (rows : List RowAt) (words : List (List ℕ)) (i : ℕ) : Type 0 where
  pub placed : i < length rows
  pub said : IsRowSaid v k ranked words (body_said rows (Same i))

-- each row that is remembered is what its text says
abbrev pub AreSaid : (version : ℕ) → Counts → List ArrayAt → List RowAt → List Said → Type 0
AreSaid v k ranked rows said = All (λ (s : Said). IsSaidAt v k ranked rows (words_left (Some s.text)) s.place) said

-- this is so of all that says what is remembered
abbrev pub WhereSaid : List Said → (ℕ → Counts → List ArrayAt → List RowAt → Type 0) → Type 0
WhereSaid said Holds = (v : ℕ) (k : Counts) (ranked : List ArrayAt) (rows : List RowAt) → AreSaid v k ranked rows said → Holds v k ranked rows

-- with this body behind them
abbrev pub AreSaidBehind : TablesDraft → Counts → List Said → Body → Type 0
AreSaidBehind d k said b = (r : RowAt) → r.row ≡ body_said d.rows b → AreSaid d.version k d.arrays.items (d.rows ++ r ∷ []) said

-- the body or the row that words say behind a draft, if there is one
abbrev pub IsBodyIn : TablesDraft → Counts → List (List ℕ) → Option Body → Type 0
IsBodyIn d k ws said = MatchOption said (IsNoRow d.version k d.arrays.items ws) (λ b. IsRowSaid d.version k d.arrays.items ws (body_said d.rows b))

abbrev pub IsRowIn : TablesDraft → Counts → (line : List ℕ) → Option NextRow → Type 0
IsRowIn d k line said = MatchOption said
    (IsNoRowLine d.version k d.arrays.items d.rows line) (λ r. IsRowLine d.version k d.arrays.items d.rows line (row_next d.rows r))

-- what their texts say behind the entries of these tables
abbrev pub AreKnown : Tables → List Said → Type 0
AreKnown t said = AreSaid t.version (counts_of t) t.arrays t.rows said
