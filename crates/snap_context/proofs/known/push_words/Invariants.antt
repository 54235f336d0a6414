-- The words so far are pushed.
use Rattle.snap_context.proofs.Words.{IsPushed}
use Rattle.snap_context.proofs.known.push_words.Given as goal

abbrev pub invariant-loop-i : goal.invariant-loop-i
invariant-loop-i l = IsPushed l.words l.i l.fn.key.items l.key.items
