-- The bodies of the numbers so far.
use Rattle.std.proofs.Common.{◌≡◌, map}
use Rattle.std.specs.List.{range_with_len}
use Rattle.snap_make.specs.Shares.{body_of}
use Rattle.snap_make.proofs.bodies.bodies.Given as goal

abbrev pub invariant-loop-number : goal.invariant-loop-number
invariant-loop-number l = l.bodies.items ≡ map (body_of l.nodes l.numbering.ids.items l.numbering.numbers.items) (range_with_len 0 l.number)
