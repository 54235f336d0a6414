use Rattle.std.proofs.Common.{◌≡◌, ◌++◌, take}
use Rattle.snap_rows.specs.Dues.{seen}
use Rattle.snap_rows.proofs.dues.copy_rest.Given as goal

abbrev pub invariant-loop-update : goal.invariant-loop-update
invariant-loop-update l = l.copies.items ≡ l.fn.copies.items ++ take l.update-index (seen l.lent)
