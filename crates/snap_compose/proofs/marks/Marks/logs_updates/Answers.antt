-- As the mark says.
use Rattle.snap_diagrams.specs.Diagrams.{diagram}
use Rattle.snap_compose.proofs.Marked.{marked_logs}
use Rattle.snap_compose.proofs.marks.Marks.logs_updates.Goals as goal

pub returns : goal.returns
returns c = λ framed ns marked. marked_logs c.of.result (diagram ns c.args.d) (c.of.ensures ns marked) framed
