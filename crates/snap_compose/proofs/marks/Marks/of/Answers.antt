use Rattle.std.proofs.Common.{subst, sym}
use Rattle.snap_diagrams.specs.Reached.{AreNoted}
use Rattle.snap_compose.specs.Marks.{IsMarkedBy}
use Rattle.snap_compose.proofs.marks.Marks.of.Goals as goal

pub returns : goal.returns
returns c = λ ns marked. c.mark_at.ensures ns (subst (AreNoted IsMarkedBy ns c.args.self.now.reached.ids.items) (sym c.deref.ensures.value) marked)
