-- Nothing is remembered yet.
use Rattle.snap_diagrams.proofs.Remembering.{remembers_none}
use Rattle.snap_diagrams.proofs.pick.pick.Goals as goal

pub picked_anew-requires : goal.picked_anew-requires
picked_anew-requires c = record { first = c.requires.a; second = c.requires.b; test = c.requires.test; known = rw c.new-memo.ensures (remembers_none _) }
