-- What the lines of a changes file say.
use Rattle.std.specs.Prelude.{◌<◌, ℕ, ◌+◌, ◌==◌, nat_lt, Bool, true, false, not, ◌&&◌, ◌||◌, List, [], ◌∷◌, ◌++◌, codes, if◌then◌else◌, Result, Ok, Err, Some, None, option_map}
use Rattle.std.specs.declared.option.Option.{Option}
use Rattle.std.specs.List.{list_any}
use Rattle.std.specs.Str.{bytes_eq}
use Rattle.snap_core.specs.Figures.{number_up_to}
use Rattle.snap_core.specs.declared.program.Which.TheVariants.{Changes}
use Rattle.snap_report.specs.PacketLines.{without_return, words_of}
use Rattle.snap_runs.specs.Schedules.{is_some_list, lines_of}
use Rattle.snap_runs.specs.declared.change.Change.{Change}
use Rattle.snap_runs.specs.declared.change.ChangesFault.{ChangesFault}
use Rattle.snap_runs.specs.declared.change.ChangesFault.TheVariants.{Line, Limit}

-- the name of a file: it doesn't begin with `-` and holds no CR
abbrev pub is_file_name : List ℕ → Bool
is_file_name [] = false
is_file_name (b ∷ bs) = not (b == 45) && not (list_any (λ x. x == 13) (b ∷ bs))

-- `after N NAME`, where a fourth word may stand behind
abbrev pub after_words : (word figures name : List ℕ) → (more : Bool) → Option (ℕ × List ℕ)
after_words word figures name more =
    if more || not (bytes_eq word (codes "after")) || not (is_file_name name) then None
    else option_map (λ n. (n, name)) (number_up_to 1000000 figures)

abbrev pub change_of_words : List (List ℕ) → Option (ℕ × List ℕ)
change_of_words (word ∷ figures ∷ name ∷ words) = after_words word figures name (is_some_list words)
change_of_words words = None

-- what a line says that isn't skipped: behind how many packets the tables of which file come into force
abbrev pub change_by : List ℕ → Option (ℕ × List ℕ)
change_by line = change_of_words (words_of (without_return line))

-- a line without words, or whose first byte is `#`, is skipped
abbrev pub is_skipped : List ℕ → Bool
is_skipped [] = true
is_skipped (b ∷ bs) = b == 35 || not (is_some_list (words_of (without_return (b ∷ bs))))

-- the changes of the first lines stand before the others
abbrev pub behind : List Change → Result (List Change) ChangesFault → Result (List Change) ChangesFault
behind before (Ok changes) = Ok (before ++ changes)
behind before (Err fault) = Err fault

-- a line of this number, whose change may come behind `least` packets at the earliest, and before which so many changes stand
abbrev pub with_change : (line least count : ℕ) → Option (ℕ × List ℕ)
    → Result (List Change) ChangesFault → Result (List Change) ChangesFault
with_change line least count None rest = Err (Line line)
with_change line least count (Some said) rest =
    if nat_lt said.0 least then Err (Line line) else
    if count == 16 then Err (Limit Changes 17) else
    behind (record { after = said.0; line = line; name = said.1 } ∷ []) rest

-- what comes next: behind how many packets at the earliest
abbrev pub least_behind : Option (ℕ × List ℕ) → ℕ
least_behind None = 0
least_behind (Some said) = said.0 + 1

-- The changes of lines, of which the first has this number. The first line that isn't in form is told, or that of the 17th
-- change, whichever comes first. The numbers of packets rise.
abbrev pub changes_from : (line least count : ℕ) → List (List ℕ) → Result (List Change) ChangesFault
changes_from line least count [] = Ok []
changes_from line least count (text ∷ lines) =
    if is_skipped text then changes_from (line + 1) least count lines else
    with_change line least count (change_by text) (changes_from (line + 1) (least_behind (change_by text)) (count + 1) lines)

-- what a changes file says
abbrev pub changes_of : List ℕ → Result (List Change) ChangesFault
changes_of text = changes_from 1 0 0 (lines_of text)

-- ---- their order
-- the first change comes behind more packets
abbrev pub IsBehind : ℕ → List Change → Type 0
IsBehind n [] = Unit {0}
IsBehind n (c ∷ cs) = n < c.after

-- the numbers of packets rise
abbrev pub AreRising : List Change → Type 0
AreRising [] = Unit {0}
AreRising (c ∷ cs) = IsBehind c.after cs × AreRising cs
