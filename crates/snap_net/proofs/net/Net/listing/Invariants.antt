use Rattle.std.specs.Prelude.{map}
use Rattle.snap_core.specs.Listing.{entry_of}
use Rattle.snap_core.proofs.ArrayListings.{AreBelow, below}
use Rattle.snap_net.specs.Shown.{gathered}
use Rattle.snap_net.proofs.net.Net.listing.Given as goal

-- the arrays so far are listed
abbrev pub invariant-loop-var : goal.invariant-loop-var
invariant-loop-var l = AreBelow l.var (below l.var (gathered l.self.tables l.self.stores)) (map entry_of l.all.items)
