-- Nothing is remembered yet.
use Rattle.snap_diagrams.proofs.Remembering.{remembers_none}
use Rattle.snap_compose.proofs.joining.combine.Goals as goal

pub combined-requires : goal.combined-requires
combined-requires c = record { first = c.requires.a; second = c.requires.b; known = rw c.new-memo.ensures (remembers_none _) }
