use Rattle.std.proofs.lemmas.Result.{IfOk-weaker}
use Rattle.snap_order.proofs.Reporting.{schedule_report}
use Rattle.snap_order.proofs.play.OrderedPlayPlayable.report.Goals as goal

pub returns : goal.returns
returns c =
    IfOk-weaker c.tell_all.result _ _
    (λ text told t hops ks lines p left rests. schedule_report t hops ks lines c.args.self.now text.items p left rests (told t hops p.state p.told p.plays)) c.tell_all.ensures
