use Rattle.std.proofs.Common.{Bool, List}
use Rattle.std.proofs.lemmas.Result.{IfOk-weaker}
use Rattle.snap_rows.specs.declared.tables.Tables.{Tables}
use Rattle.snap_runs.specs.Playing.{packets_in}
use Rattle.snap_order.specs.Ordered.{Ordered, OrderedHappening, happenings}
use Rattle.snap_order.specs.Playing.{Plays}
use Rattle.snap_order.specs.Reports.{IsRunReport}
use Rattle.snap_order.specs.Rounds.{IsRoundReport}
use Rattle.snap_order.proofs.Rounding.{paced_of, round_report, rounds_first}
use Rattle.snap_order.proofs.workers.worked.Goals as goal

pub begin_all-requires-clause-paced : goal.begin_all-requires-clause-paced
begin_all-requires-clause-paced g c =
    let ks = packets_in c.args.packets.items in
    λ κs h. paced_of c.args.tables c.args.hops ks c.in_ok-play.play (rounds_first c.args.tables c.args.hops ks c.in_ok-play.play c.in_ok-play.ensures.plays c.in_ok-play.ensures.left)

pub end_all-requires-clause-paced : goal.end_all-requires-clause-paced
end_all-requires-clause-paced g c =
    let t = c.args.tables in
    let ks = packets_in c.args.packets.items in
    let first = rounds_first t c.args.hops ks c.in_ok-play.play c.in_ok-play.ensures.plays c.in_ok-play.ensures.left in
    λ κs h. paced_of t c.args.hops ks c.in_ok-begun.begun.play (c.in_ok-begun.ensures.ran t c.args.hops ks first)

pub tell_all-requires-clause-playing : goal.tell_all-requires-clause-playing
tell_all-requires-clause-playing g c =
    let t = c.args.tables in
    let hops = c.args.hops in
    let ks = packets_in c.args.packets.items in
    let first = rounds_first t hops ks c.in_ok-play.play c.in_ok-play.ensures.plays c.in_ok-play.ensures.left in
    let p = c.in_ok-ended.ensures.ran t hops ks (c.in_ok-begun.ensures.ran t hops ks first) in
    (t, hops, p.state, p.turns, p.plays)

pub returns : goal.returns
returns g c =
    let t = c.args.tables in
    let hops = c.args.hops in
    let ks = packets_in c.args.packets.items in
    let v = c.in_ok-ended.ended in
    let first = rounds_first t hops ks c.in_ok-play.play c.in_ok-play.ensures.plays c.in_ok-play.ensures.left in
    let p = c.in_ok-ended.ensures.ran t hops ks (c.in_ok-begun.ensures.ran t hops ks first) in
    IfOk-weaker c.tell_all.result (λ text. (t : Tables) (hops : Bool) (s : Ordered) (us : List OrderedHappening) → Plays t hops s us v → IsRunReport t hops s.net.injected s.net (happenings us) text.items) (λ text. IsRoundReport t hops ks text.items)
    (λ text told. round_report t hops ks v text.items p c.in_ok-ended.ensures.none c.in_ok-ended.ensures.rests (told t hops p.state p.turns p.plays)) c.tell_all.ensures
