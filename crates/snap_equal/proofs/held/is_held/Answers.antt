-- An offset goes to the other side.
use Rattle.std.proofs.Common.{sym}
use Rattle.snap_equal.proofs.Holding.{held_as}
use Rattle.snap_equal.proofs.held.is_held.Goals as goal

pub returns : goal.returns
returns c = held_as c.args.ctx.now c.args.arrays c.holds.result c.args.var c.args.index.now c.args.term c.args.more c.know_term.ensures c.ranges.more.fits
    (rw (sym c.in_ok-index.ensures, sym c.shifted-value.ensures) c.holds.ensures)
