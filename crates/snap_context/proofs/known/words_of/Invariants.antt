-- The words so far are those of the facts so far.
use Rattle.std.proofs.Common.{◌≡◌, ◌++◌, List, length}
use Rattle.std.specs.Prelude.{All}
use Rattle.snap_context.specs.declared.fact.Fact.{Fact}
use Rattle.snap_context.specs.Classes.{IsTest}
use Rattle.snap_context.specs.Known.{all_known, HasWords}
use Rattle.snap_context.proofs.known.words_of.Given as goal

abbrev pub invariant-loop-fact : goal.invariant-loop-fact
invariant-loop-fact l =
    All (λ f. IsTest (length l.classes) f.test) l.fact-iterator.left.now
    × (seen : List Fact) × (seen ++ l.fact-iterator.left.now ≡ l.facts) × HasWords l.words.items (all_known l.classes l.roots l.settled seen)
