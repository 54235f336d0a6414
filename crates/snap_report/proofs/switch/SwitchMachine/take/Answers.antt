use Rattle.std.proofs.Common.{ap, length, refl, subst, sym, ◌∙◌}
use Rattle.snap_core.specs.Cells.{arrays_of}
use Rattle.snap_core.specs.Fields.{count}
use Rattle.snap_core.specs.Fits.{PolFits}
use Rattle.snap_core.specs.Meaning.{eval}
use Rattle.snap_core.specs.Runs.{ran_with}
use Rattle.snap_core.proofs.FitLemmas.{PolFits-arrays}
use Rattle.snap_report.specs.Reports.{all_lines, block}
use Rattle.snap_report.proofs.SwitchLemmas.{stands-more}
use Rattle.snap_report.proofs.switch.SwitchMachine.take.Goals as goal

pub run_laid_on-requires : goal.run_laid_on-requires
run_laid_on-requires c =
    let program = c.args.self.now.program.now in let n = length c.args.packet.now in
    let bounded = c.requires.ready.0 in
    subst (PolFits n 64) (sym c.requires.ready.1)
    (subst (λ n. PolFits n 64 program.body) (sym c.requires.comps) (PolFits-arrays (count program.fields) (length program.arrays) 64 program.body bounded.few bounded.fits))

pub returns-in_ok-put_flow-in-Ok-clause-takes : goal.returns-in_ok-put_flow-in-Ok-clause-takes
returns-in_ok-put_flow-in-Ok-clause-takes c = λ first packets blocks stood.
    let old = c.args.self.now in
    let m = arrays_of old.store in let k = c.args.packet.now in
    let outcome = ran_with (arrays_of c.run_laid_on.new.store) c.run_laid_on.new.packet c.in-Ok.ran in
    let is = ap (λ p. eval p m k) (sym c.requires.ready.1) ∙ c.in-Ok.ensures.ok in
    (refl, (block (all_lines old.program.now.fields) old.number outcome.packets, stands-more first packets blocks old stood k _ outcome refl is refl refl, c.in_ok-put_flow-in-Ok.ensures))
