use Rattle.std.proofs.Common.{◌≡◌, map}
use Rattle.std.specs.List.{range_with_len}
use Rattle.snap_demo.specs.Row.{switch_name}
use Rattle.snap_demo.proofs.network.switches.Given as goal

abbrev pub invariant-loop-i : goal.invariant-loop-i
invariant-loop-i l = l.names.items ≡ map switch_name (range_with_len 0 l.i)
