use Rattle.std.proofs.Common.{◌≡◌, map, take}
use Rattle.snap_core.specs.Listing.{entry_of}
use Rattle.snap_net.proofs.net.Net.entries.Given as goal

abbrev pub invariant-loop-each : goal.invariant-loop-each
invariant-loop-each l = l.entries.items ≡ map entry_of (take l.each-index l.each-items)
