use Rattle.std.specs.Prelude.{map}
use Rattle.snap_core.specs.Cells.{arrays_of}
use Rattle.snap_core.specs.Listing.{entry_of}
use Rattle.snap_core.proofs.ArrayListings.{AreBelow, below}
use Rattle.snap_core.proofs.store.Store.listing.Given as goal

-- the arrays so far are listed
abbrev pub invariant-loop-var : goal.invariant-loop-var
invariant-loop-var l = AreBelow l.var (below l.var (arrays_of l.self)) (map entry_of l.listed.items)
