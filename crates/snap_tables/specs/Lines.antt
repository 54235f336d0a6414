-- The lines of tables, one after another: which may follow those before, and how reading ends.
use Rattle.std.specs.Prelude.{◌≡◌, ◌≢◌, ◌⊎◌, ℕ, ◌+◌, ◌≤◌, Bool, true, false, ◌&&◌, ◌||◌, nat_lt, nat_le, if◌then◌else◌, Option, Some, None, List, [], ◌∷◌, ◌++◌, length, codes, decimal, Result, Ok, Err}
use Rattle.snap_core.specs.declared.program.Which.{Which}
use Rattle.snap_core.specs.declared.program.Which.TheVariants.{Components, Arrays, Switches, Links, Ports}
use Rattle.snap_core.specs.Fields.{count}
use Rattle.snap_rows.specs.declared.tables.Rule.{Rule}
use Rattle.snap_rows.specs.declared.tables.Spot.{Spot}
use Rattle.snap_rows.specs.declared.tables.Spot.TheVariants as spot
use Rattle.snap_rows.specs.declared.tables.Tables.{Tables}
use Rattle.snap_rows.specs.Form.{IsWellFormed}
use Rattle.snap_rows.specs.Rules.{IsFirstBroken, IsValid}
use Rattle.snap_tables.specs.Entries.{AreInSequence, IsNextArray, IsNextField, IsNextHop, IsNextLink, IsNextPort, IsNextRow, IsNextSwitch, due_pair}
use Rattle.snap_tables.specs.Text.{first_line, hop_words, last_line, link_words, names_text, port_words, prefix_text, rank_words, row_words, rows_text, spaced, text, ways_text}
use Rattle.snap_tables.specs.declared.fault.TablesFault.{TablesFault}
use Rattle.snap_tables.specs.declared.fault.TablesFault.TheVariants.{Line, Limit, Broken, NoMemory}
use Rattle.snap_tables.specs.declared.item.Item.{Item}
use Rattle.snap_tables.specs.declared.item.Item.TheVariants as item
use Rattle.snap_tables.specs.declared.piece.Counts.{Counts}

-- the line of an entry, without its LF
abbrev pub item_body : (version : ℕ) → Item → List ℕ
item_body v (item.Field f) = codes "field" ++ spaced ((f.name ++ prefix_text f.prefix) ∷ [])
item_body v (item.Switch n) = codes "switch" ++ spaced (n ∷ [])
item_body v (item.Array a) = codes "array" ++ spaced (a.name ∷ decimal a.at ∷ rank_words v a.rank)
item_body v (item.Link l) = codes "link" ++ spaced (link_words l)
item_body v (item.Port p) = codes "port" ++ spaced (port_words p)
item_body v (item.Hop h) = codes "hop" ++ spaced (hop_words h)
item_body v (item.Row r) = codes "row" ++ spaced (decimal r.at ∷ decimal r.number ∷ row_words r.row)

abbrev pub item_line : (version : ℕ) → Item → List ℕ
item_line v it = item_body v it ++ codes "\n"

-- the order of sections
abbrev pub section : Item → ℕ
section (item.Field f) = 1
section (item.Switch n) = 2
section (item.Array a) = 3
section (item.Link l) = 4
section (item.Port p) = 5
section (item.Hop h) = 6
section (item.Row r) = 7

abbrev pub with_item : Tables → Item → Tables
with_item t (item.Field f) = record t { fields = t.fields ++ (f ∷ []) }
with_item t (item.Switch n) = record t { switches = t.switches ++ (n ∷ []) }
with_item t (item.Array a) = record t { arrays = t.arrays ++ (a ∷ []) }
with_item t (item.Link l) = record t { links = t.links ++ (l ∷ []) }
with_item t (item.Port p) = record t { ports = t.ports ++ (p ∷ []) }
with_item t (item.Hop h) = record t { hops = t.hops ++ (h ∷ []) }
with_item t (item.Row r) = record t { rows = t.rows ++ (r ∷ []) }

abbrev pub counts_of : Tables → Counts
counts_of t = record { comps = count t.fields; arrays = length t.arrays; switches = length t.switches }

-- whether an entry may stand behind those of its section
abbrev pub IsNext : Tables → Item → Type 0
IsNext t (item.Field f) = IsNextField t.fields f
IsNext t (item.Switch n) = IsNextSwitch t.switches n
IsNext t (item.Array a) = IsNextArray t.version (length t.switches) t.arrays a
IsNext t (item.Link l) = IsNextLink (length t.switches) t.links l
IsNext t (item.Port p) = IsNextPort (length t.switches) t.ports p
IsNext t (item.Hop h) = IsNextHop (length t.switches) t.hops h
IsNext t (item.Row r) = IsNextRow t.version (counts_of t) t.arrays t.rows r

abbrev pub has : {X : Type 0} → List X → Bool
has [] = false
has (x ∷ xs) = true

-- the last section that has begun
abbrev pub last_section : Tables → ℕ
last_section t =
    if has t.rows then 7 else if has t.hops then 6 else if has t.ports then 5 else
    if has t.links then 4 else if has t.arrays then 3 else if has t.switches then 2 else 1

-- no pair of switches is without its next hop
abbrev pub has_all_hops : Tables → Bool
has_all_hops t = nat_le (length t.switches) (due_pair (length t.switches) t.hops).0
    || nat_le (length t.switches) (due_pair (length t.switches) t.hops).1

-- the sections that must be whole before a section are: two fields, a switch, all next hops. The last line counts as the eighth.
abbrev pub is_ready : Tables → ℕ → Bool
is_ready t n = (nat_lt n 2 || nat_le 2 (length t.fields)) && (nat_lt n 3 || has t.switches) && (nat_lt n 7 || has_all_hops t)

-- the line of an entry is of its form after the lines before it
pub record Follows (t : Tables) (it : Item) : Type 0 where
  pub order : last_section t ≤ section it
  pub ready : is_ready t (section it) ≡ true
  pub next : IsNext t it

abbrev pub over : Which → (most count : ℕ) → Option (Which × ℕ)
over which most n = if nat_lt most n then Some (which, n) else None

-- the count that an entry passes, if it passes one, in tables that end with it
abbrev pub passed : Tables → Item → Option (Which × ℕ)
passed t (item.Field f) = over Components 64 (count t.fields)
passed t (item.Switch n) = over Switches 256 (length t.switches)
passed t (item.Array a) = over Arrays 64 (length t.arrays)
passed t (item.Link l) = over Links 4096 (length t.links)
passed t (item.Port p) = over Ports 1024 (length t.ports)
passed t (item.Hop h) = None
passed t (item.Row r) = None

-- a beginning of tables: each entry is of its form after those before it, and no count is passed
pub record IsBeginning (t : Tables) : Type 0 where
  pub version : (t.version ≡ 1) ⊎ (t.version ≡ 2)
  pub fields : AreInSequence IsNextField t.fields
  pub switches : AreInSequence IsNextSwitch t.switches
  pub arrays : AreInSequence (IsNextArray t.version (length t.switches)) t.arrays
  pub links : AreInSequence (IsNextLink (length t.switches)) t.links
  pub ports : AreInSequence (IsNextPort (length t.switches)) t.ports
  pub hops : AreInSequence (IsNextHop (length t.switches)) t.hops
  pub rows : AreInSequence (IsNextRow t.version (counts_of t) t.arrays) t.rows
  pub ready : is_ready t (last_section t) ≡ true
  pub few_comps : count t.fields ≤ 64
  pub few_switches : length t.switches ≤ 256
  pub few_arrays : length t.arrays ≤ 64
  pub few_links : length t.links ≤ 4096
  pub few_ports : length t.ports ≤ 1024

-- its text, without the last line
abbrev pub front_text : Tables → List ℕ
front_text t = first_line t.version ++ (names_text t ++ (ways_text t ++ rows_text t))

-- the number of its lines
abbrev pub lines_of : Tables → ℕ
lines_of t = 1 + length t.fields + length t.switches + length t.arrays + length t.links + length t.ports + length t.hops + length t.rows

-- a text begins with the lines of a beginning, and these bytes stand behind them
pub record Begins (bytes : List ℕ) (t : Tables) (rest : List ℕ) : Type 0 where
  pub beginning : IsBeginning t
  pub split : bytes ≡ front_text t ++ rest

-- the last line may come
abbrev pub IsWhole : Tables → Type 0
IsWhole t = is_ready t 8 ≡ true

-- the first line that isn't of its form after the lines before it: the first one; or one behind a beginning that is no line
-- of an entry that follows, and not the last line; or one behind the last line
pub data IsBadLine (bytes : List ℕ) : ℕ → Type 0 where
  at_first : ((v : ℕ) (more : List ℕ) → (v ≡ 1) ⊎ (v ≡ 2) → bytes ≢ first_line v ++ more) → IsBadLine bytes 1
  behind_beginning : (t : Tables) (rest : List ℕ) → Begins bytes t rest
      → ((it : Item) (more : List ℕ) → Follows t it → rest ≢ item_line t.version it ++ more)
      → ((more : List ℕ) → IsWhole t → rest ≢ last_line ++ more) → IsBadLine bytes (lines_of t + 1)
  behind_last : (t : Tables) (more : List ℕ) → Begins bytes t (last_line ++ more) → IsWhole t → more ≢ [] → IsBadLine bytes (lines_of t + 2)

-- the first line that isn't within the counts is in form, and passes this count
pub record Passes (bytes : List ℕ) (which : Which) (count : ℕ) : Type 0 where
  pub tables : Tables
  pub entry : Item
  pub rest : List ℕ
  pub begins : Begins bytes tables (item_line tables.version entry ++ rest)
  pub follows : Follows tables entry
  pub passes : passed (with_item tables entry) entry ≡ Some (which, count)

-- the line of an entry, counted from 1
abbrev pub line_of : Tables → Spot → ℕ
line_of t (spot.Array i) = 2 + length t.fields + length t.switches + i
line_of t (spot.Port i) = 2 + length t.fields + length t.switches + length t.arrays + length t.links + i
line_of t (spot.Hop i) = 2 + length t.fields + length t.switches + length t.arrays + length t.links + length t.ports + i
line_of t (spot.Row i) = 2 + length t.fields + length t.switches + length t.arrays + length t.links + length t.ports + length t.hops + i

-- tables in form with this text, and the first of their rules that is broken, with the line of its first spot
pub record Breaks (bytes : List ℕ) (rule : Rule) (line : ℕ) : Type 0 where
  pub tables : Tables
  pub spot : Spot
  pub whole : bytes ≡ text tables
  pub beginning : IsBeginning tables
  pub is_whole : IsWhole tables
  pub form : IsWellFormed tables
  pub first : IsFirstBroken tables rule spot
  pub place : line ≡ line_of tables spot

-- what is read of a text: tables that it spells, which are valid; or the first thing that is wrong
abbrev pub IsRead : List ℕ → Result Tables TablesFault → Type 0
IsRead bytes (Ok t) = (bytes ≡ text t) × IsBeginning t × IsWhole t × IsWellFormed t × IsValid t
IsRead bytes (Err (Line l)) = IsBadLine bytes l
IsRead bytes (Err (Limit which n)) = Passes bytes which n
IsRead bytes (Err (Broken rule l)) = Breaks bytes rule l
IsRead bytes (Err NoMemory) = Unit {0}
