use Rattle.std.proofs.Common.{◌≡◌, ◌++◌, take}
use Rattle.std.specs.List.{flat_map}
use Rattle.snap_tables.specs.Text.{out_words, spaced}
use Rattle.snap_tables.proofs.words.put_outs.Given as goal

abbrev pub invariant-loop-parts : goal.invariant-loop-parts
invariant-loop-parts l = l.out.items ≡ l.initial.out.items ++ spaced (flat_map out_words (take l.parts-index l.outs))
