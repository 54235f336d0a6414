-- The law on keys.
use Rattle.snap_context.proofs.Knowing.{known_alike as law}
use Rattle.snap_context.proofs.laws.known_alike.Goals as goal

pub returns : goal.returns
returns c = law
