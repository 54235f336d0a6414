-- The law, from the lemma.
use Rattle.snap_context.proofs.Answers.{Meets-an_answer}
use Rattle.snap_context.proofs.laws.meets_an_answer.Goals as goal

pub returns : goal.returns
returns c = Meets-an_answer
