-- What `parse` answers.
use Rattle.std.specs.Prelude.{◌≡◌, Result, Ok, Err}
use Rattle.snap_parse.specs.declared.tree.Source.{Source}
use Rattle.snap_parse.specs.declared.fault.ParseFault.{ParseFault}
use Rattle.snap_parse.specs.declared.fault.ParseFault.TheVariants.{NoMemory}
use Rattle.snap_parse.specs.Tree.{SourceTree, source_tree}

-- the answer is this tree, unless memory ran out
abbrev pub GivesTree : Result Source ParseFault → SourceTree → Type 0
GivesTree (Ok x) s = source_tree x ≡ s
GivesTree (Err NoMemory) s = Unit {0}
GivesTree (Err _) s = ⊥

-- the answer is this refusal, unless memory ran out
abbrev pub GivesFault : Result Source ParseFault → ParseFault → Type 0
GivesFault (Ok x) f = ⊥
GivesFault (Err NoMemory) f = Unit {0}
GivesFault (Err e) f = e ≡ f
