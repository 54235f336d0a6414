use Rattle.snap_tables.proofs.Exact.{spells-one}
use Rattle.snap_tables.proofs.laws.texts_spell_one.Goals as goal

pub returns : goal.returns
returns c = spells-one
