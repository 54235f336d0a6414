use Rattle.std.proofs.Common.{sym, ◌∙◌}
use Rattle.std.proofs.lemmas.Option.{none-some}
use Rattle.snap_core.specs.Cells.{arrays_of}
use Rattle.snap_build.proofs.Wholly.{form_in}
use Rattle.snap_demo.proofs.compile.diagram.Goals as goal

pub build-requires-clause-body : goal.build-requires-clause-body
build-requires-clause-body c = form_in c.args.program.now c.requires.form

pub unreachable-requires : goal.unreachable-requires
unreachable-requires c =
    let told = rw c.in-Err-Race.field-0-is at c.in-Err-Race.ensures.race in
    let made = c.serial_never_races.ensures c.args.program.now.body c.requires.serial (arrays_of c.in-Err-Race.field-0-0) c.in-Err-Race.field-0-1 in
    none-some made.0 (sym told.none ∙ made.1)
