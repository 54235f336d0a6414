use Rattle.std.proofs.Common.{subst}
use Rattle.snap_runs.specs.Runner.{RefusesLineBy, StopsBy}
use Rattle.snap_runs.specs.Schedules.{lines_of}
use Rattle.snap_runs.proofs.runner.played.Goals as goal

pub run-requires-clause-fresh : goal.run-requires-clause-fresh
run-requires-clause-fresh g c = (c.args.tables, c.args.hops, c.in_ok-play.ensures.plays)

pub report-requires-clause-playing : goal.report-requires-clause-playing
report-requires-clause-playing g c =
    let p = (c.in-Ok.ensures.ran c.args.tables c.args.hops c.in_ok-play.ensures.plays).0 in
    (c.args.tables, c.args.hops, p.state, p.told, p.plays)

pub returns-in-Ok : goal.returns-in-Ok
returns-in-Ok g c =
    let v = g.P.Playable in
    let t = c.args.tables in
    let lines = lines_of c.args.schedule.now in
    let ran = c.in-Ok.ensures.ran t c.args.hops c.in_ok-play.ensures.plays in
    subst (λ ks. v.reports t c.args.hops ks lines c.in_ok-report-in-Ok.field-0.items) c.in_ok-play.ensures.left (c.in_ok-report-in-Ok.ensures t c.args.hops (v.left c.in_ok-play.play) lines ran.0 ran.1 ran.2)

pub returns : goal.returns
returns g c =
    let v = g.P.Playable in
    let t = c.args.tables in
    subst (λ ks. StopsBy (RefusesLineBy v.net (v.leads t) (v.begin t) ks (lines_of c.args.schedule.now)) c.in-Err.fault) c.in_ok-play.ensures.left (c.in-Err.ensures.ran t c.args.hops c.in_ok-play.ensures.plays)
