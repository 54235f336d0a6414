use Rattle.snap_report.proofs.laid.Part.run_on.Goals as goal

pub run_on-requires : goal.run_on-requires
run_on-requires c = c.branch-self.ensures.fits _ _ c.requires.fits
