use Rattle.snap_tables.proofs.OneReading.{reads-each}
use Rattle.snap_tables.proofs.laws.tables_are_read.Goals as goal

pub returns : goal.returns
returns c = reads-each
