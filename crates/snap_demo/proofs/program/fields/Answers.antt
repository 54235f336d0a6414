use Rattle.std.proofs.Common.{sym, subst}
use Rattle.snap_core.specs.Fields.{IsFields}
use Rattle.snap_demo.proofs.Formed.{fields_well_formed}
use Rattle.snap_demo.proofs.program.fields.Goals as goal

pub new-requires : goal.new-requires
new-requires c = subst IsFields (sym c.in_ok-list.ensures) fields_well_formed
