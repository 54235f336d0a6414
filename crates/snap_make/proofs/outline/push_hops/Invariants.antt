-- The next hops so far.
use Rattle.std.proofs.Common.{◌≡◌, ◌++◌, map}
use Rattle.snap_make.specs.Pairs.{at_switch, hop_entry, hop_for}
use Rattle.snap_make.proofs.outline.push_hops.Given as goal

abbrev pub invariant-loop-target : goal.invariant-loop-target
invariant-loop-target l = map hop_entry l.hops.items ≡ map hop_entry l.fn.hops.items ++ at_switch (hop_for l.routes l.from) l.from l.target
