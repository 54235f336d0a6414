use Rattle.std.proofs.Common.{◌≡◌, ◌++◌, take}
use Rattle.std.specs.List.{flat_map}
use Rattle.snap_tables.specs.Text.{stage_words, spaced}
use Rattle.snap_tables.proofs.words.put_stages.Given as goal

abbrev pub invariant-loop-stage : goal.invariant-loop-stage
invariant-loop-stage l = l.out.items ≡ l.initial.out.items ++ spaced (flat_map stage_words (take l.stage-index l.stages))
