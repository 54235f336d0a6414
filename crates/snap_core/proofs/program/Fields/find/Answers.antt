use Rattle.std.proofs.lemmas.Grind.{common_steps}
use Rattle.std.proofs.Common.{◌≡◌, arith, sym, subst}
use Rattle.snap_core.specs.Fields.{FoundFits, IsFields, count, found}
use Rattle.snap_core.proofs.FieldLemmas.{found-within}
use Rattle.snap_core.proofs.program.Fields.find.Goals as goal

pub returns-then-is_some-clause-fits : goal.returns-then-is_some-clause-fits
returns-then-is_some-clause-fits c =
    let one : c.find-found.result ≡ found c.args.self.now c.args.name.now = grind (arith, common_steps) in
    subst (FoundFits (count c.args.self.now)) (sym one) (found-within c.args.self.now c.args.name.now (subst IsFields c.self.view_is c.self.invariant.0))
