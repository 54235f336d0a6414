use Rattle.std.proofs.Common.{◌≡◌, drop}
use Rattle.snap_core.specs.Arrays.{updates}
use Rattle.snap_core.specs.Cells.{arrays_of}
use Rattle.snap_rows.specs.Dues.{seen}
use Rattle.snap_rows.proofs.dues.apply_rest.Given as goal

abbrev pub invariant-loop-update : goal.invariant-loop-update
invariant-loop-update l = updates (arrays_of l.store) (drop l.update-index (seen l.lent)) l.packet ≡ updates (arrays_of l.initial.store) (seen l.lent) l.packet
