use Rattle.std.proofs.Common.{◌≡◌, map}
use Rattle.std.specs.List.{range_with_len}
use Rattle.snap_demo.specs.Row.{port_of}
use Rattle.snap_demo.proofs.network.ports.Given as goal

abbrev pub invariant-loop-i : goal.invariant-loop-i
invariant-loop-i l = l.ports.items ≡ map port_of (range_with_len 0 l.i)
