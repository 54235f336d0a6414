-- The bodies, and what stands elsewhere for the numbers so far.
use Rattle.std.proofs.Common.{◌≡◌, ◌++◌, map, take}
use Rattle.snap_faithful.specs.OnDemand.{place_of}
use Rattle.snap_make.specs.Demanded.{gone}
use Rattle.snap_make.proofs.demanded.push_gone.Given as goal

abbrev pub invariant-loop-number : goal.invariant-loop-number
invariant-loop-number l = l.bodies.items ≡ l.fn.bodies.items ++ map (gone (place_of l.tables)) (take l.number l.fn.bodies.items)
