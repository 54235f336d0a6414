use Rattle.std.proofs.Common.{◌<◌, length, arith, ◌∙◌}
use Rattle.snap_order.proofs.Rounding.{paced_of, rounds_fall, rounds_on}
use Rattle.snap_order.proofs.workers.end_all.Goals as goal

pub round-requires-clause-playing : goal.round-requires-clause-playing
round-requires-clause-playing g c =
    let v = c.args.start in
    let f = c.requires.paced in
    let p = c.loop-rounds.invariant.ran v.net.net.tables v.hops f.0 f.1 in
    λ κs h. (v.net.net.tables, v.hops, p.state, p.turns, p.plays)

pub loop-rounds-smaller : goal.loop-rounds-smaller
loop-rounds-smaller g c =
    let v = c.args.start in
    let f = c.requires.paced in
    let old = c.loop-rounds.play in
    let p = c.loop-rounds.invariant.ran v.net.net.tables v.hops f.0 f.1 in
    let count = c.flying.ensures.count in
    let test = c.loop-rounds-test.true in
    let some : 0 < length old.net.net.flying = omega (arith, count, test) in
    rounds_fall old c.in_ok-play.play c.flying.ensures.held c.flying.ensures.ordered c.in_ok-play.ensures.rounded c.loop-rounds.invariant.none some (paced_of v.net.net.tables v.hops f.0 old p)

pub loop-rounds-preserved : goal.loop-rounds-preserved
loop-rounds-preserved g c =
    let v = c.args.start in
    let f = c.requires.paced in
    let old = c.loop-rounds.play in
    let i = c.loop-rounds.invariant in
    let p = i.ran v.net.net.tables v.hops f.0 f.1 in
    let count = c.flying.ensures.count in
    let test = c.loop-rounds-test.true in
    let some : 0 < length old.net.net.flying = omega (arith, count, test) in
    record {
      ran = λ t hops ks q. rounds_on old c.in_ok-play.play c.flying.ensures.held c.flying.ensures.ordered c.in_ok-play.ensures.rounded i.none some t hops ks (i.ran t hops ks q);
      none = (c.in_ok-play.ensures.rounded v.net.net.tables v.hops p.state p.turns p.plays).left ∙ i.none;
      count = c.in_ok-play.ensures.count ∙ i.count;
    }
