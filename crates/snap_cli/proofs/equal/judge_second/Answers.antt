-- A race of the second.
use Rattle.snap_cli.proofs.EqualPrograms.{second_told}
use Rattle.snap_cli.proofs.Relayed.{passed}
use Rattle.snap_cli.proofs.equal.judge_second.Goals as goal

pub returns-in_err-second : goal.returns-in_err-second
returns-in_err-second c = rw (passed c.from_residual.ensures.1) (second_told c.args.left.now c.args.right.now c.requires.alike (c.whole_programs_never_race.ensures c.args.left.now c.requires.first.0 c.args.first.now.nodes c.args.first.now.root c.requires.first.1)
    c.in_err-second.field-0.0 c.in_err-second.ensures.race)
