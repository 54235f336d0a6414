-- Tables as far as a program has read them.
use Rattle.std.specs.Prelude.{◌≡◌, ◌≢◌, ◌⊎◌, ℕ, ◌+◌, ◌<◌, ◌≤◌, Bool, true, ◌&&◌, nat_le, Option, Some, None, List, [], ◌∷◌, ◌++◌, length, codes, decimal, slice_get, ◌-◌}
use Rattle.snap_core.specs.declared.program.Which.{Which}
use Rattle.std.specs.Option.{option_map_or}
use Rattle.std.specs.Ordering.{is_lt, nat_cmp, ordering_then}
use Rattle.std.specs.Str.{bytes_eq}
use Rattle.snap_core.specs.Fields.{count}
use Rattle.snap_rows.specs.declared.tables.ArrayAt.{ArrayAt}
use Rattle.snap_rows.specs.declared.tables.RowAt.{RowAt}
use Rattle.snap_rows.specs.declared.tables.Spot.{Spot}
use Rattle.snap_rows.specs.declared.tables.Spot.TheVariants as spot
use Rattle.snap_rows.specs.declared.tables.Tables.{Tables}
use Rattle.snap_tables.specs.declared.piece.Counts.{Counts}
use Rattle.snap_tables.specs.declared.places.Places.{Places}
use Rattle.snap_tables.specs.Entries.{IsNextRow, all_declared, array_fits, is_new, kept}
use Rattle.snap_tables.specs.Reading.{array_said, switch_said}
use Rattle.snap_tables.specs.Text.{Words, first_line, spaced, text}
use Rattle.snap_tables.specs.Lines.{Follows, IsBeginning, IsWhole, is_ready, item_body, last_section, lines_of, passed, with_item}
use Rattle.snap_tables.specs.declared.draft.TablesDraft.{TablesDraft}
use Rattle.snap_tables.specs.declared.fault.TablesFault.{TablesFault}
use Rattle.snap_tables.specs.declared.fault.TablesFault.TheVariants as fault
use Rattle.snap_tables.specs.declared.item.Item.{Item}
use Rattle.snap_tables.specs.declared.item.Item.TheVariants as item

abbrev pub tables_of : TablesDraft → Tables
tables_of d = record {
  version = d.version;
  fields = d.fields.items;
  switches = d.switches.items;
  arrays = d.arrays.items;
  links = d.links.items;
  ports = d.ports.items;
  hops = d.hops.items;
  rows = d.rows;
}

-- what a draft keeps besides its lists, and how long these are
pub record IsKept (d : TablesDraft) : Type 0 where
  pub comps : d.comps ≡ count d.fields.items
  pub names : d.names.items ≡ all_declared d.fields.items
  pub few_comps : d.comps ≤ 64
  pub few_switches : length d.switches.items ≤ 256
  pub few_arrays : length d.arrays.items ≤ 64

-- an entry of this section may come
abbrev pub may_come : Tables → ℕ → Bool
may_come t n = nat_le (last_section t) n && is_ready t n

-- the switch or the array that words say, where one may come behind those of a draft
abbrev pub switch_next : TablesDraft → Words → Option (List ℕ)
switch_next d ws = kept (may_come (tables_of d) 2) (is_new d.switches.items) (switch_said ws)

abbrev pub array_next : TablesDraft → Words → Option ArrayAt
array_next d ws = kept (may_come (tables_of d) 3) (array_fits d.arrays.items) (array_said d.version (length d.switches.items) ws)

-- the first byte of an entry's line
abbrev pub letter : Item → ℕ
letter (item.Field f) = 102
letter (item.Switch n) = 115
letter (item.Array a) = 97
letter (item.Link l) = 108
letter (item.Port p) = 112
letter (item.Hop h) = 104
letter (item.Row r) = 114

-- a line's first byte
abbrev pub IsLed : ℕ → List ℕ → Type 0
IsLed n line = (rest : List ℕ) × (line ≡ n ∷ rest)

-- the line is that of an entry that follows, or of none with this first byte, or of none at all
abbrev pub IsItem : Tables → List ℕ → Item → Type 0
IsItem t line it = Follows t it × (line ≡ item_body t.version it)

abbrev pub IsNoneBy : ℕ → Tables → List ℕ → Type 0
IsNoneBy n t line = (it : Item) → letter it ≡ n → Follows t it → line ≢ item_body t.version it

abbrev pub IsNone : Tables → List ℕ → Type 0
IsNone t line = (it : Item) → Follows t it → line ≢ item_body t.version it

-- an entry stands behind those of a draft, and passes this count, if it passes one
pub record IsPut (d : TablesDraft) (it : Item) (past : Option (Which × ℕ)) (e : TablesDraft) : Type 0 where
  pub tables : tables_of e ≡ with_item (tables_of d) it
  pub count : past ≡ passed (tables_of e) it
  pub kept : past ≡ None → IsKept e

-- tables of a version without entries
abbrev pub no_entries : ℕ → Tables
no_entries v = record { version = v; fields = []; switches = []; arrays = []; links = []; ports = []; hops = []; rows = [] }

-- the line of a row behind these rows, or of none
abbrev pub IsRowLine : (version : ℕ) → Counts → List ArrayAt → List RowAt → List ℕ → RowAt → Type 0
IsRowLine v k ranked rs line r = IsNextRow v k ranked rs r × (line ≡ item_body v (item.Row r))

abbrev pub IsNoRowLine : (version : ℕ) → Counts → List ArrayAt → List RowAt → List ℕ → Type 0
IsNoRowLine v k ranked rs line = (r : RowAt) → IsNextRow v k ranked rs r → line ≢ item_body v (item.Row r)

-- a row of this switch and number stands behind these rows
abbrev pub is_above_at : List RowAt → ℕ → ℕ → Bool
is_above_at rs a n = option_map_or
    (λ (y : RowAt). is_lt (ordering_then (nat_cmp y.at a) (nat_cmp y.number n))) (slice_get rs (length rs - 1)) true

-- the first line, without its LF
abbrev pub first_body : ℕ → List ℕ
first_body v = codes "snap-tables" ++ spaced (decimal v ∷ [])

-- no first line, or the first line of a version and what stands behind it
abbrev pub IsNoFirst : List ℕ → Type 0
IsNoFirst bytes = (v : ℕ) (more : List ℕ) → (v ≡ 1) ⊎ (v ≡ 2) → bytes ≢ first_line v ++ more

abbrev pub IsFirstSplit : List ℕ → ℕ → List ℕ → Type 0
IsFirstSplit bytes v rest = ((v ≡ 1) ⊎ (v ≡ 2)) × (bytes ≡ first_line v ++ rest) × (length rest < length bytes)

abbrev pub is_last : Tables → List ℕ → Bool
is_last t line = bytes_eq line (codes "end") && is_ready t 8

-- a text is read to its end: it is the text of the draft's tables, which are whole
pub record IsReadTo (bytes : List ℕ) (d : TablesDraft) : Type 0 where
  pub beginning : IsBeginning (tables_of d)
  pub whole : IsWhole (tables_of d)
  pub text : bytes ≡ text (tables_of d)
  pub few : lines_of (tables_of d) < length bytes

-- the lines of the first array, port, next hop and row
abbrev pub ArePlaces : Tables → Places → Type 0
ArePlaces t p =
    (p.arrays ≡ 2 + length t.fields + length t.switches)
    × (p.ports ≡ 2 + length t.fields + length t.switches + length t.arrays + length t.links)
    × (p.hops ≡ 2 + length t.fields + length t.switches + length t.arrays + length t.links + length t.ports)
    × (p.rows ≡ 2 + length t.fields + length t.switches + length t.arrays + length t.links + length t.ports + length t.hops)

abbrev pub place_of : Places → Spot → ℕ
place_of p (spot.Array i) = p.arrays + i
place_of p (spot.Port i) = p.ports + i
place_of p (spot.Hop i) = p.hops + i
place_of p (spot.Row i) = p.rows + i

-- an entry that a line says was put, and passes no count
abbrev pub IsPutLine : TablesDraft → List ℕ → TablesDraft → Type 0
IsPutLine d line e = (it : Item) × IsItem (tables_of d) line it × IsPut d it None e

-- why a line of this number isn't taken
abbrev pub IsLineFault : TablesDraft → ℕ → List ℕ → TablesFault → Type 0
IsLineFault d number line (fault.Line l) = (l ≡ number) × IsNone (tables_of d) line
IsLineFault d number line (fault.Limit which n) = (it : Item)
    × IsItem (tables_of d) line it × (passed (with_item (tables_of d) it) it ≡ Some (which, n))
IsLineFault d number line (fault.Broken rule l) = ⊥
IsLineFault d number line fault.NoMemory = Unit {0}
