use Rattle.snap_cli.proofs.ProgramOnce.{spells_once}
use Rattle.snap_cli.proofs.laws.spells_one_program.Goals as goal

pub returns : goal.returns
returns c = spells_once c.lexing_is_deterministic.ensures c.parsing_is_deterministic.ensures
