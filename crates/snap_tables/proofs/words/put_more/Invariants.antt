use Rattle.std.proofs.Common.{◌≡◌, ◌++◌, codes, take}
use Rattle.std.specs.List.{flat_map}
use Rattle.snap_tables.specs.Text.{atom_word}
use Rattle.snap_tables.proofs.words.put_more.Given as goal

abbrev pub invariant-loop-atom : goal.invariant-loop-atom
invariant-loop-atom l = l.out.items ≡ l.initial.out.items ++ flat_map (λ b. codes "," ++ atom_word b) (take l.atom-index l.atoms)
