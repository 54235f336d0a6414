-- Entries of tables: which may come behind those of their section.
use Rattle.std.specs.Prelude.{◌≡◌, ℕ, ◌+◌, ◌-◌, ◌<◌, ◌≤◌, ◌^◌, Bool, true, ◌&&◌, ◌==◌, nat_lt, if◌then◌else◌, IsTrue, Option, Some, None, List, [], ◌∷◌, ◌++◌, length, codes, slice_get, not, is_some, option_and_then}
use Rattle.std.specs.List.{flat_map, list_all, list_any}
use Rattle.std.specs.Option.{option_map_or}
use Rattle.std.specs.Str.{bytes_eq}
use Rattle.snap_core.specs.declared.ports.PortAt.{PortAt}
use Rattle.snap_core.specs.declared.program.Field.{Field}
use Rattle.snap_core.specs.Fields.{PrefixFits}
use Rattle.snap_core.specs.Names.{IsName, is_switch_name}
use Rattle.snap_rows.specs.declared.tables.ArrayAt.{ArrayAt}
use Rattle.snap_rows.specs.declared.tables.Hop.{Hop}
use Rattle.snap_rows.specs.declared.tables.RowAt.{RowAt}
use Rattle.snap_core.specs.Ports.{link_cmp}
use Rattle.snap_rows.specs.Form.{row_cmp}
use Rattle.std.specs.Ordering.{is_lt, nat_cmp}
use Rattle.snap_tables.specs.Laws.{IsRank}
use Rattle.snap_tables.specs.Rows.{IsRowOf}
use Rattle.snap_tables.specs.declared.piece.Counts.{Counts}

-- none of these names is that one
abbrev pub is_new : List (List ℕ) → List ℕ → Bool
is_new names name = not (list_any (bytes_eq name) names)

-- the last stands below the next one, if there is a last
abbrev pub is_above : {X : Type 0} → (X → X → Bool) → List X → X → Bool
is_above less xs x = option_map_or (λ y. less y x) (slice_get xs (length xs - 1)) true

-- a plain field of this name
abbrev pub is_plain_field : List ℕ → Field → Bool
is_plain_field k f = bytes_eq f.name k && not (is_some f.prefix)

-- the first two fields are `inport` and `outport`
abbrev pub is_field_at : ℕ → Field → Bool
is_field_at i f = if i == 0 then is_plain_field (codes "inport") f else if i == 1 then is_plain_field (codes "outport") f else true

-- the names that a field declares: its own, and those of its two components where it is split
abbrev pub declared : List ℕ → Option ℕ → List (List ℕ)
declared name None = name ∷ []
declared name (Some n) = name ∷ (name ++ codes ".net") ∷ (name ++ codes ".host") ∷ []

abbrev pub all_declared : List Field → List (List ℕ)
all_declared fs = flat_map (λ (f : Field). declared f.name f.prefix) fs

-- none of these names is among those
abbrev pub are_new : List (List ℕ) → List (List ℕ) → Bool
are_new names more = list_all (is_new names) more

-- a field may stand here, and declares no name that is declared before
abbrev pub field_fits : List Field → Field → Bool
field_fits fs f = is_field_at (length fs) f && are_new (all_declared fs) (declared f.name f.prefix)

abbrev pub IsNextField : List Field → Field → Type 0
IsNextField fs f = IsName f.name × PrefixFits f.prefix × (field_fits fs f ≡ true)

abbrev pub IsNextSwitch : List (List ℕ) → List ℕ → Type 0
IsNextSwitch names name = IsTrue (is_switch_name name) × (is_new names name ≡ true)

-- no array before has this one's name
abbrev pub array_fits : List ArrayAt → ArrayAt → Bool
array_fits ranked a = not (list_any (λ (b : ArrayAt). bytes_eq a.name b.name) ranked)

abbrev pub IsNextArray : (version switches : ℕ) → List ArrayAt → ArrayAt → Type 0
IsNextArray v n ranked a = IsName a.name × (a.at < n) × IsRank v a.rank × (array_fits ranked a ≡ true)

abbrev pub link_less : ℕ × ℕ → ℕ × ℕ → Bool
link_less a b = is_lt (link_cmp a b)

abbrev pub link_fits : List (ℕ × ℕ) → ℕ × ℕ → Bool
link_fits ls l = nat_lt l.0 l.1 && is_above link_less ls l

abbrev pub IsNextLink : (switches : ℕ) → List (ℕ × ℕ) → ℕ × ℕ → Type 0
IsNextLink n ls l = (l.0 < n) × (l.1 < n) × (link_fits ls l ≡ true)

abbrev pub port_less : PortAt → PortAt → Bool
port_less a b = is_lt (nat_cmp a.port b.port)

abbrev pub IsNextPort : (switches : ℕ) → List PortAt → PortAt → Type 0
IsNextPort n ps p = (1 ≤ p.port) × (p.port < 2 ^ 32) × (p.at < n) × (is_above port_less ps p ≡ true)

-- the pair of different switches behind this one, as 0 1, 0 2, 1 0, 1 2, 2 0, 2 1; and behind the last a pair of no switches
abbrev pub pair_from : (switches : ℕ) → ℕ → ℕ → ℕ × ℕ
pair_from n a x = if nat_lt x n then (a, x) else (a + 1, 0)

abbrev pub next_pair : (switches : ℕ) → ℕ × ℕ → ℕ × ℕ
next_pair n p = pair_from n p.0 (if p.1 + 1 == p.0 then p.1 + 2 else p.1 + 1)

-- the pair whose turn it is behind these next hops
abbrev pub due_pair : (switches : ℕ) → List Hop → ℕ × ℕ
due_pair n hs = option_map_or (λ (h : Hop). next_pair n (h.from, h.target)) (slice_get hs (length hs - 1)) (0, 1)

abbrev pub hop_fits : (switches : ℕ) → List Hop → Hop → Bool
hop_fits n hs h = (h.from == (due_pair n hs).0) && (h.target == (due_pair n hs).1)

abbrev pub IsNextHop : (switches : ℕ) → List Hop → Hop → Type 0
IsNextHop n hs h = (h.from < n) × (h.target < n) × (h.next < n) × (hop_fits n hs h ≡ true)

abbrev pub row_less : RowAt → RowAt → Bool
row_less a b = is_lt (row_cmp a b)

abbrev pub IsNextRow : (version : ℕ) → Counts → List ArrayAt → List RowAt → RowAt → Type 0
IsNextRow v k ranked rs r = (r.at < k.switches) × (r.number < 2 ^ 64) × IsRowOf v k ranked r.row × (is_above row_less rs r ≡ true)

-- each entry may come behind those before it
abbrev pub AllFrom : {X : Type 0} → (List X → X → Type 0) → List X → List X → Type 0
AllFrom IsNext before [] = Unit {0}
AllFrom IsNext before (x ∷ xs) = IsNext before x × AllFrom IsNext (before ++ (x ∷ [])) xs

abbrev pub AreInSequence : {X : Type 0} → (List X → X → Type 0) → List X → Type 0
AreInSequence IsNext xs = AllFrom IsNext [] xs

-- what is said, where it may come and this test holds
abbrev pub kept : {X : Type 0} → Bool → (X → Bool) → Option X → Option X
kept may test said = if may then option_and_then (λ x. if test x then Some x else None) said else None
