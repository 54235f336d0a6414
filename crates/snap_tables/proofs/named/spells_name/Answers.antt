use Rattle.snap_tables.proofs.Shades.{other-no-name}
use Rattle.snap_tables.proofs.named.spells_name.Goals as goal

pub returns-in-Err : goal.returns-in-Err
returns-in-Err c = other-no-name c.args.word.now c.in-Err.ensures.cases.0
