use Rattle.std.proofs.Common.{ap, sym, ◌∙◌, option_map}
use Rattle.snap_core.specs.Meaning.{logged}
use Rattle.snap_report.proofs.ChoiceLemmas.{after-one}
use Rattle.snap_report.proofs.laid.Part.branch_after.Goals as goal

pub returns-in-Same-clause-fits : goal.returns-in-Same-clause-fits
returns-in-Same-clause-fits c = c.branch-self.ensures.fits _ _ c.requires.fits

pub returns-in-Same-clause-same : goal.returns-in-Same-clause-same
returns-in-Same-clause-same c = λ m.
    let k = c.args.packet.now in let r = c.args.before.now in
    after-one c.args.self.now.pol.now m k r c.in-Same.is ∙ ap (option_map (logged r.reads r.writes)) (c.branch-self.ensures.same m) ∙ sym (after-one c.branch-self.result.now m k r c.in-Same.is)
