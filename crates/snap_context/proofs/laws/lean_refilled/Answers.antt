-- The law, from the lemma.
use Rattle.snap_context.proofs.Lean.{refilled}
use Rattle.snap_context.proofs.laws.lean_refilled.Goals as goal

pub returns : goal.returns
returns c = refilled
