-- Rows in form, and what the words of rows say.
use Rattle.std.specs.Prelude.{◌≡◌, ◌≢◌, ℕ, ◌<◌, ◌≤◌, ◌^◌, Bool, true, false, ◌&&◌, ◌==◌, nat_lt, nat_le, if◌then◌else◌, Option, Some, None, List, [], ◌∷◌, ◌++◌, length, codes, slice_get, option_map, option_and_then, unwrap_or, not}
use Rattle.std.specs.List.{All, flat_map}
use Rattle.std.specs.Ordering.{is_lt}
use Rattle.std.specs.Str.{bytes_eq}
use Rattle.snap_core.specs.declared.policy.Atom.{Atom}
use Rattle.snap_core.specs.declared.policy.Test.{Test}
use Rattle.snap_core.specs.declared.policy.Test.TheVariants.{Value, Equal, State as StateTest}
use Rattle.snap_core.specs.declared.policy.Update.{Update}
use Rattle.snap_rows.specs.declared.tables.ArrayAt.{ArrayAt}
use Rattle.snap_rows.specs.declared.tables.Row.{Row}
use Rattle.snap_rows.specs.declared.tables.Row.TheVariants as row
use Rattle.snap_rows.specs.declared.tables.Stage.{Stage as LeafStage}
use Rattle.snap_rows.specs.Entries.{Parts}
use Rattle.snap_rows.specs.Form.{parts_cmp}
use Rattle.snap_tables.specs.Text.{Words, out_words, row_words, stage_words, update_words}
use Rattle.snap_tables.specs.Laws.{IsPart, IsTestOf, IsUpdateOf}
use Rattle.snap_tables.specs.Pieces.{IsFront, IsNoFront, is_adjacent}
use Rattle.snap_tables.specs.Reading.{below_said, equal_taken, no_words, opened, state_taken, taken, u64_said, value_taken}
use Rattle.snap_tables.specs.declared.piece.Counts.{Counts}

-- the words of a part, ranked a piece
abbrev pub part_words : ℕ × Atom → Words
part_words p = Rattle.snap_tables.specs.Text.part_word p ∷ []

-- a word begins with `c`, ranked parts do
abbrev pub is_part_word : List ℕ → Bool
is_part_word [] = false
is_part_word (b ∷ bs) = b == 99

abbrev pub opens_part : Words → Bool
opens_part [] = false
opens_part (w ∷ ws) = is_part_word w

-- the first word is this one
abbrev pub opens_with : List ℕ → Words → Bool
opens_with k [] = false
opens_with k (w ∷ ws) = bytes_eq w k

abbrev pub opens_out : Words → Bool
opens_out ws = opens_with (codes "out") ws

abbrev pub opens_stage : Words → Bool
opens_stage ws = opens_with (codes "at") ws

abbrev pub never : Words → Bool
never ws = false

-- components that rise
abbrev pub part_less : ℕ × Atom → ℕ × Atom → Bool
part_less p q = nat_lt p.0 q.0

abbrev pub parts_less : Parts → Parts → Bool
parts_less a b = is_lt (parts_cmp a b)

abbrev pub stands_apart : LeafStage → LeafStage → Bool
stands_apart a b = not (a.at == b.at)

abbrev pub IsOut : Counts → Parts → Type 0
IsOut k o = All (IsPart k.comps) o × (is_adjacent part_less o ≡ true)

abbrev pub AreOuts : Counts → List Parts → Type 0
AreOuts k os = All (IsOut k) os × (is_adjacent parts_less os ≡ true)

abbrev pub IsStage : Counts → LeafStage → Type 0
IsStage k s = (s.at < k.switches) × (0 < length s.ups) × All (IsUpdateOf k.comps k.arrays) s.ups

abbrev pub AreStages : Counts → List LeafStage → Type 0
AreStages k ss = All (IsStage k) ss × (is_adjacent stands_apart ss ≡ true) × (length ss ≤ 65535)

-- the rank of an array
abbrev pub rank_among : List ArrayAt → ℕ → ℕ
rank_among ranked v = unwrap_or (option_map (λ (a : ArrayAt). a.rank) (slice_get ranked v)) 0

-- the ranks of updates are at least this, and never fall
abbrev pub rises_from : List ArrayAt → ℕ → List Update → Bool
rises_from ranked r [] = true
rises_from ranked r (u ∷ us) = nat_le r (rank_among ranked u.var) && rises_from ranked (rank_among ranked u.var) us

abbrev pub AreUpdates : Counts → List ArrayAt → List Update → Type 0
AreUpdates k ranked us = All (IsUpdateOf k.comps k.arrays) us × (rises_from ranked 0 us ≡ true)

-- a test other than the state test
abbrev pub is_field_test : Test → Bool
is_field_test (Value c n) = true
is_field_test (Equal a b n) = true
is_field_test (StateTest v es x) = false

-- a row in form
abbrev pub IsRowOf : (version : ℕ) → Counts → List ArrayAt → Row → Type 0
IsRowOf v k ranked (row.Field test y z) = IsTestOf k.comps k.arrays test × (is_field_test test ≡ true) × (y < 2 ^ 64) × (z < 2 ^ 64)
IsRowOf v k ranked (row.State test y z) = IsTestOf k.comps k.arrays test × (is_field_test test ≡ false) × (y < 2 ^ 64) × (z < 2 ^ 64)
IsRowOf v k ranked (row.Go x) = ((v == 1) ≡ true) × (x < k.switches)
IsRowOf v k ranked (row.Leaf ss os) = ((v == 1) ≡ true) × AreStages k ss × AreOuts k os
IsRowOf v k ranked row.Stop = (v == 2) ≡ true
IsRowOf v k ranked (row.Last us os) = ((v == 2) ≡ true) × AreUpdates k ranked us × AreOuts k os

-- ---- what words say

-- a test, from the front of words
abbrev pub test_taken : Counts → Words → Option (Test × Words)
test_taken k [] = None
test_taken k (w ∷ ws) =
    if bytes_eq w (codes "value") then value_taken k.comps ws else
    if bytes_eq w (codes "equal") then equal_taken k.comps ws else
    if bytes_eq w (codes "state") then state_taken k.comps k.arrays ws else None

-- the row of a test
abbrev pub tested : Test → ℕ → ℕ → Row
tested test y z = if is_field_test test then row.Field test y z else row.State test y z

abbrev pub test_row_said : Counts → Words → Option Row
test_row_said k ws =
    option_and_then (λ (t : Test × Words).
    option_and_then (λ (y : ℕ × Words).
    option_and_then (λ (z : ℕ × Words). if no_words z.1 then Some (tested t.0 y.0 z.0) else None)
    (taken u64_said y.1)) (taken u64_said t.1)) (test_taken k ws)

abbrev pub go_said : (version : ℕ) → Counts → Words → Option Row
go_said v k ws =
    option_and_then (λ (r : Words).
    option_and_then (λ (x : ℕ × Words). if no_words x.1 && (v == 1) then Some (row.Go x.0) else None)
    (taken (below_said k.switches) r)) (opened (codes "go") ws)

abbrev pub stop_said : (version : ℕ) → Words → Option Row
stop_said v ws = option_and_then (λ (r : Words). if no_words r && (v == 2) then Some row.Stop else None) (opened (codes "stop") ws)

-- ---- what stands behind `leaf`
abbrev pub IsNoOuts : Counts → Words → Type 0
IsNoOuts k ws = (os : List Parts) → AreOuts k os → ws ≢ flat_map out_words os

abbrev pub AreOutsSaid : Counts → Words → List Parts → Type 0
AreOutsSaid k ws os = (ws ≡ flat_map out_words os) × AreOuts k os

abbrev pub IsNoStages : Counts → Words → Type 0
IsNoStages k ws = IsNoFront stage_words (AreStages k) out_words (AreOuts k) ws

abbrev pub AreStagesTaken : Counts → Words → List LeafStage → Words → Type 0
AreStagesTaken k ws ss left = IsFront stage_words (AreStages k) out_words (AreOuts k) ws ss left

abbrev pub IsNoUpdates : Counts → List ArrayAt → Words → Type 0
IsNoUpdates k ranked ws = IsNoFront update_words (AreUpdates k ranked) out_words (AreOuts k) ws

abbrev pub AreUpdatesTaken : Counts → List ArrayAt → Words → List Update → Words → Type 0
AreUpdatesTaken k ranked ws us left = IsFront update_words (AreUpdates k ranked) out_words (AreOuts k) ws us left

-- a leaf of version 1
abbrev pub IsNoLeaf : Counts → Words → Type 0
IsNoLeaf k ws = (ss : List LeafStage) (os : List Parts) → AreStages k ss → AreOuts k os → ws ≢ flat_map stage_words ss ++ flat_map out_words os

abbrev pub IsLeafSaid : Counts → Words → Row → Type 0
IsLeafSaid k ws b = (ss : List LeafStage) × (os : List Parts) × (b ≡ row.Leaf ss os)
    × (ws ≡ flat_map stage_words ss ++ flat_map out_words os) × AreStages k ss × AreOuts k os

-- a leaf of version 2
abbrev pub IsNoLast : Counts → List ArrayAt → Words → Type 0
IsNoLast k ranked ws = (us : List Update) (os : List Parts) → AreUpdates k ranked us
    → AreOuts k os → ws ≢ flat_map update_words us ++ flat_map out_words os

abbrev pub IsLastSaid : Counts → List ArrayAt → Words → Row → Type 0
IsLastSaid k ranked ws b = (us : List Update) × (os : List Parts) × (b ≡ row.Last us os)
    × (ws ≡ flat_map update_words us ++ flat_map out_words os) × AreUpdates k ranked us × AreOuts k os

-- words say a row, or none
abbrev pub IsRowSaid : (version : ℕ) → Counts → List ArrayAt → Words → Row → Type 0
IsRowSaid v k ranked ws b = (ws ≡ row_words b) × IsRowOf v k ranked b

abbrev pub IsNoRow : (version : ℕ) → Counts → List ArrayAt → Words → Type 0
IsNoRow v k ranked ws = (b : Row) → IsRowOf v k ranked b → ws ≢ row_words b
