use Rattle.snap_lex.proofs.Once.{lexing_is_deterministic}
use Rattle.snap_lex.proofs.laws.lexing_is_deterministic.Goals as goal

pub returns : goal.returns
returns c = lexing_is_deterministic
