use Rattle.std.proofs.Common.{◌≡◌, ◌++◌, take}
use Rattle.snap_rows.proofs.plan.lend.Given as goal

abbrev pub invariant-loop-update : goal.invariant-loop-update
invariant-loop-update l = l.ups ≡ l.fn.ups ++ take l.update-index l.lent
