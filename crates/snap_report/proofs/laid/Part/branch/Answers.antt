use Rattle.std.proofs.Common.{IfSome, subst}
use Rattle.snap_report.specs.Choices.{IsChoice}
use Rattle.snap_report.proofs.laid.Part.branch.Goals as goal

pub pick-requires : goal.pick-requires
pick-requires c = (subst (λ o. IfSome o (IsChoice c.args.self.now.pol.now)) c.in-Some.is c.requires.part).comp _ _ c.requires.fits
