-- What is pushed so far and what is left are the key.
use Rattle.std.proofs.Common.{◌≡◌, ◌++◌, length}
use Rattle.std.specs.Prelude.{All}
use Rattle.snap_context.specs.Classes.{IsTest}
use Rattle.snap_context.specs.Known.{all_known, normals_key}
use Rattle.snap_context.proofs.known.push_facts.Given as goal

abbrev pub invariant-loop-fact : goal.invariant-loop-fact
invariant-loop-fact l =
    All (λ f. IsTest (length l.classes) f.test) l.fact-iterator.left.now
    × (l.key.items ++ normals_key (all_known l.classes l.roots l.settled l.fact-iterator.left.now) ≡ l.fn.key.items ++ normals_key (all_known l.classes l.roots l.settled l.facts))
