-- One array more.
use Rattle.std.proofs.lemmas.List.Elements.{All-push, All-same}
use Rattle.snap_diagrams.specs.Quiet.{SeenClear}
use Rattle.snap_diagrams.proofs.survey.all_judged.Goals as goal

pub loop-seen-preserved : goal.loop-seen-preserved
loop-seen-preserved c = All-same (SeenClear c.args.values) _ _ c.in_ok-push.ensures.items (All-push (SeenClear c.args.values) c.loop-seen.all.items c.judged.result c.loop-seen.invariant c.judged.ensures)
