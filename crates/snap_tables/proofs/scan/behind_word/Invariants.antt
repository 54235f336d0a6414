use Rattle.std.proofs.Common.{◌≡◌, length}
use Rattle.snap_core.specs.Figures.{parts_by}
use Rattle.snap_tables.specs.Reading.{is_space, opened}
use Rattle.snap_tables.proofs.scan.behind_word.Given as goal

-- the letters that are left stand in front of the rest just where the keyword stands in front of the text
abbrev pub invariant-loop-letter : goal.invariant-loop-letter
invariant-loop-letter l = opened l.left (parts_by is_space l.rest) ≡ opened l.keyword (parts_by is_space l.text)

abbrev pub decreases-loop-letter : goal.decreases-loop-letter
decreases-loop-letter l = length l.left
