use Rattle.snap_tables.proofs.OneReading.{reads-one-way}
use Rattle.snap_tables.proofs.laws.reading_is_deterministic.Goals as goal

pub returns : goal.returns
returns c = reads-one-way
