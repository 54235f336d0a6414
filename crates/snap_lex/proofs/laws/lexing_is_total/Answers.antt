use Rattle.snap_lex.proofs.Scanned.{lexing_is_total}
use Rattle.snap_lex.proofs.laws.lexing_is_total.Goals as goal

pub returns : goal.returns
returns c = lexing_is_total
