-- All are at the index of the first.
use Rattle.snap_context.proofs.settled.is_settled.Goals as goal

pub returns-then-other-var : goal.returns-then-other-var
returns-then-other-var c = λ t. record { index = _; all = c.all_at.ensures t }
