use Rattle.std.proofs.Common.{◌≡◌, ◌++◌, take}
use Rattle.std.specs.List.{flat_map}
use Rattle.snap_tables.specs.Text.{update_words, spaced}
use Rattle.snap_tables.proofs.words.put_updates.Given as goal

abbrev pub invariant-loop-update : goal.invariant-loop-update
invariant-loop-update l = l.out.items ≡ l.initial.out.items ++ spaced (flat_map update_words (take l.update-index l.updates))
