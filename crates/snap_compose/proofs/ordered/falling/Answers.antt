-- By the codes of the indices.
use Rattle.std.proofs.Common.{sym}
use Rattle.snap_compose.proofs.AtNumbers.{falling_is}
use Rattle.snap_compose.proofs.ordered.falling.Goals as goal

pub returns : goal.returns
returns c = falling_is c.args.a.now c.args.b.now c.compare_indices.result (rw (sym c.items.ensures, sym c.items-2.ensures) c.compare_indices.ensures)
