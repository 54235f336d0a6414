use Rattle.snap_runs.specs.Runner.{RefusesLineBy}
use Rattle.snap_runs.proofs.Scheduled.{all-written, nothing-written, some-written}
use Rattle.snap_runs.proofs.runner.write_schedule.Goals as goal

pub returns-in-Err-played-clause-report : goal.returns-in-Err-played-clause-report
returns-in-Err-played-clause-report g c =
    let v = g.P.Playable in
    let t = c.args.tables in
    let files = g.S.Shelf.files in
    nothing-written (v.reports t c.args.hops) (RefusesLineBy v.net (v.leads t) (v.begin t)) t c.in-Ok.ready.items c.in-Ok-read_whole.text.items c.in-Ok-read_whole.ensures.bound
    (files c.args.shelf.now) (files c.read_packets.new.shelf) c.read_packets.ensures.files c.args.packets.now c.args.schedule.now c.in-Ok.ensures.whole c.in-Ok-read_whole.ensures.whole (g.K.Sink.taken c.args.sink.now)
    c.in-Err-played.fault c.deref.result.now c.deref.ensures.value c.in-Err-played.ensures

pub returns-in-Ok-write_whole-clause-report : goal.returns-in-Ok-write_whole-clause-report
returns-in-Ok-write_whole-clause-report g c =
    let v = g.P.Playable in
    let t = c.args.tables in
    let files = g.S.Shelf.files in
    all-written (v.reports t c.args.hops) (RefusesLineBy v.net (v.leads t) (v.begin t)) t c.in-Ok.ready.items c.in-Ok-read_whole.text.items c.in-Ok-read_whole.ensures.bound
    (files c.args.shelf.now) (files c.read_packets.new.shelf) c.read_packets.ensures.files c.args.packets.now c.args.schedule.now c.in-Ok.ensures.whole c.in-Ok-read_whole.ensures.whole (g.K.Sink.taken c.args.sink.now)
    c.in-Ok-played.report.items c.deref.result.now c.deref.ensures.value c.in-Ok-played.ensures (g.K.Sink.taken c.write_whole.new.sink) c.deref-2.result.now c.deref-2.ensures.value c.in-Ok-write_whole.ensures.ok

pub returns-clause-report : goal.returns-clause-report
returns-clause-report g c =
    let v = g.P.Playable in
    let t = c.args.tables in
    let files = g.S.Shelf.files in
    some-written (v.reports t c.args.hops) (RefusesLineBy v.net (v.leads t) (v.begin t)) t c.in-Ok.ready.items c.in-Ok-read_whole.text.items c.in-Ok-read_whole.ensures.bound
    (files c.args.shelf.now) (files c.read_packets.new.shelf) c.read_packets.ensures.files c.args.packets.now c.args.schedule.now c.in-Ok.ensures.whole c.in-Ok-read_whole.ensures.whole (g.K.Sink.taken c.args.sink.now)
    c.in-Ok-played.report.items c.deref.result.now c.deref.ensures.value c.in-Ok-played.ensures (g.K.Sink.taken c.write_whole.new.sink) c.deref-2.result.now c.deref-2.ensures.value c.in-Err-write_whole.ensures.err
