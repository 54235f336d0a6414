-- What is pushed so far and what is left are the code.
use Rattle.std.proofs.Common.{◌≡◌, ◌++◌}
use Rattle.snap_equal.specs.Weaker.{facts_code}
use Rattle.snap_equal.proofs.keys.push_facts.Given as goal

abbrev pub invariant-loop-fact : goal.invariant-loop-fact
invariant-loop-fact l = l.code.items ++ facts_code l.fact-iterator.left.now ≡ l.fn.code.items ++ facts_code l.facts
