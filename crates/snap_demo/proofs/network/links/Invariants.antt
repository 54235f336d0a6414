use Rattle.std.proofs.Common.{◌≡◌, map}
use Rattle.std.specs.List.{range_with_len}
use Rattle.snap_demo.specs.Row.{link_of}
use Rattle.snap_demo.proofs.network.links.Given as goal

abbrev pub invariant-loop-i : goal.invariant-loop-i
invariant-loop-i l = l.pairs.items ≡ map link_of (range_with_len 0 l.i)
