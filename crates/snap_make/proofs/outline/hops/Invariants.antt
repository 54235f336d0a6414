-- The next hops of the switches so far.
use Rattle.std.proofs.Common.{◌≡◌, map}
use Rattle.snap_make.specs.Pairs.{at_switches, hop_entry, hop_for}
use Rattle.snap_make.proofs.outline.hops.Given as goal

abbrev pub invariant-loop-from : goal.invariant-loop-from
invariant-loop-from l = map hop_entry l.hops.items ≡ at_switches (hop_for l.routes) l.from l.switches
