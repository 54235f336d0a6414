use Rattle.snap_cli.proofs.check.judge.Goals as goal

pub returns : goal.returns
returns c = c.whole_programs_never_race.ensures _ _ _ _ c.in_ok-diagram.ensures.whole.1
