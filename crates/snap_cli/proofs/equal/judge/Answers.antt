-- A race of the first.
use Rattle.snap_cli.proofs.EqualPrograms.{first_told}
use Rattle.snap_cli.proofs.Relayed.{passed}
use Rattle.snap_cli.proofs.equal.judge.Goals as goal

pub returns-in_err-first : goal.returns-in_err-first
returns-in_err-first c = rw (passed c.from_residual.ensures.1) (first_told c.args.left.now c.args.right.now (c.are_declared_alike.ensures.0 c.if-not-are_declared_alike.false) c.in_err-first.field-0.0 c.in_err-first.ensures.race)
