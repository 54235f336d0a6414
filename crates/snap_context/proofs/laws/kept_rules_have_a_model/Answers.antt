-- The law, from the lemma.
use Rattle.snap_context.proofs.Model.{model}
use Rattle.snap_context.proofs.laws.kept_rules_have_a_model.Goals as goal

pub returns : goal.returns
returns c = model
