use Rattle.std.proofs.Common.{◌≡◌, ◌++◌, map, take}
use Rattle.snap_tables.specs.Text.{part_word, spaced}
use Rattle.snap_tables.proofs.words.put_parts.Given as goal

abbrev pub invariant-loop-comp : goal.invariant-loop-comp
invariant-loop-comp l = l.out.items ≡ l.initial.out.items ++ spaced (map part_word (take l.comp-index l.parts))
