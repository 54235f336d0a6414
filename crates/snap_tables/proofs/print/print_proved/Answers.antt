use Rattle.std.proofs.Common.{subst}
use Rattle.snap_tables.specs.Ranges.{TablesInRange}
use Rattle.snap_tables.proofs.ReadBack.{are-read-back}
use Rattle.snap_tables.proofs.print.print_proved.Goals as goal

pub returns-clause-back : goal.returns-clause-back
returns-clause-back g c = are-read-back c.args.tables.now c.tables-tables.ensures.form c.tables-tables.ensures.valid (subst TablesInRange c.tables-tables.ensures.tables c.know_tables.ensures)
