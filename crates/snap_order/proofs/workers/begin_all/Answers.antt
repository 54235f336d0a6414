use Rattle.std.proofs.Common.{◌<◌, length, arith}
use Rattle.snap_order.specs.Playing.{left_in}
use Rattle.snap_order.proofs.Playing.{inject_made}
use Rattle.snap_order.proofs.Rounding.{one_fewer, rounds_more}
use Rattle.snap_order.proofs.workers.begin_all.Goals as goal

pub inject-requires-clause-playing : goal.inject-requires-clause-playing
inject-requires-clause-playing g c =
    let v = c.args.start in
    let f = c.requires.paced in
    let p = c.loop-play.invariant.ran v.net.net.tables v.hops f.0 f.1 in
    (v.net.net.tables, v.hops, p.state, p.turns, p.plays)

pub round-requires-clause-playing : goal.round-requires-clause-playing
round-requires-clause-playing g c =
    let v = c.args.start in
    let f = c.requires.paced in
    let old = c.loop-play.play in
    let p = c.loop-play.invariant.ran v.net.net.tables v.hops f.0 f.1 in
    let left = c.left.ensures in
    let test = c.loop-play-test.true in
    let some : 0 < length (left_in old) = omega (arith, left, test) in
    let a = inject_made old c.inject.new.self some c.in_ok-inject.field-0 c.in_ok-inject.ensures.injected v.net.net.tables v.hops p.state p.turns p.plays in
    (λ κs h. (v.net.net.tables, v.hops, a.state, p.turns, a.plays))

pub loop-play-smaller : goal.loop-play-smaller
loop-play-smaller g c =
    let v = c.args.start in
    let f = c.requires.paced in
    let old = c.loop-play.play in
    let p = c.loop-play.invariant.ran v.net.net.tables v.hops f.0 f.1 in
    let left = c.left.ensures in
    let test = c.loop-play-test.true in
    let some : 0 < length (left_in old) = omega (arith, left, test) in
    let fewer = one_fewer old c.inject.new.self c.in_ok-play.play (inject_made old c.inject.new.self some c.in_ok-inject.field-0 c.in_ok-inject.ensures.injected) c.in_ok-play.ensures.rounded v.net.net.tables v.hops f.0 p in
    omega (arith, fewer)

pub loop-play-preserved : goal.loop-play-preserved
loop-play-preserved g c =
    let v = c.args.start in
    let f = c.requires.paced in
    let old = c.loop-play.play in
    let mid = c.inject.new.self in
    let i = c.loop-play.invariant in
    let p = i.ran v.net.net.tables v.hops f.0 f.1 in
    let left = c.left.ensures in
    let test = c.loop-play-test.true in
    let some : 0 < length (left_in old) = omega (arith, left, test) in
    let injected = inject_made old mid some c.in_ok-inject.field-0 c.in_ok-inject.ensures.injected in
    let fewer = one_fewer old mid c.in_ok-play.play injected c.in_ok-play.ensures.rounded v.net.net.tables v.hops f.0 p in
    let few = i.few in
    let more = c.in_ok-inject.ensures.count in
    let still = c.in_ok-play.ensures.count in
    record {
      ran = λ t hops ks q. rounds_more old mid c.flying-known.ensures.held c.flying-known.ensures.ordered c.in_ok-play.play injected c.in_ok-play.ensures.rounded t hops ks (i.ran t hops ks q);
      few = omega (arith, few, more, still, fewer);
    }
