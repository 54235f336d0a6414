use Rattle.snap_cli.proofs.TextLemmas.{one_text}
use Rattle.snap_cli.proofs.deps.has_one_text.Goals as goal

pub returns : goal.returns
returns c = one_text c.tied_is_equivalence.ensures c.has_one_rank.ensures
