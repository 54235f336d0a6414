use Rattle.std.proofs.Common.{◌≡◌, sym, subst, ⊎_elim}
use Rattle.snap_core.specs.Arrays.{updates}
use Rattle.snap_core.specs.Cells.{arrays_of}
use Rattle.snap_rows.specs.Stepping.{Steps}
use Rattle.snap_rows.proofs.Stepping.{steps_own}
use Rattle.snap_rows.proofs.plan.step.Goals as goal

pub returns-clause-own : goal.returns-clause-own
returns-clause-own g c =
    let t = c.args.tables.now in
    let k = c.args.packet.now in
    let m = arrays_of c.args.store.now in
    let may = g.A.Admit.admits c.args.admit.now in
    let new = arrays_of c.apply.new.store in
    let done : new ≡ updates m c.fate.new.ups k = c.in_ok-apply.ensures in
    let step : Steps t c.args.at k may m c.args.head new c.in_ok-fate.fate = subst (λ m'. Steps t c.args.at k may m c.args.head m' c.in_ok-fate.fate) (sym done) c.in_ok-fate.ensures.steps in
    λ p other. ⊎_elim (λ own. own) (λ same. absurd (other same)) (steps_own c.tables-known.ensures.valid c.tables-known.ensures.form step p)
