-- Both ways.
use Rattle.snap_context.proofs.Answers.{Meets-parts, Meets-with_fact}
use Rattle.snap_context.proofs.laws.meets_one_more.Goals as goal

pub returns : goal.returns
returns c facts t y m k = (Meets-parts facts t y m k, λ h. Meets-with_fact facts t y m k h.0 h.1)
