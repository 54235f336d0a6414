use Rattle.std.proofs.Common.{sym}
use Rattle.snap_lex.proofs.Addresses.{no_group, other_group, gives_none}
use Rattle.snap_lex.proofs.address.behind_group.Goals as goal

pub returns-in_err-dot : goal.returns-in_err-dot
returns-in_err-dot c = gives_none c.from_residual.result _ _ c.from_residual.ensures (no_group c.args.bytes.now c.in_err-dot.ensures)

pub returns-else-is_group : goal.returns-else-is_group
returns-else-is_group c =
    let d = c.in_ok-dot.ensures in
    other_group c.args.bytes.now c.in_ok-dot.dot d.0 d.1 d.2 (sym c.if-is_group.ensures)
