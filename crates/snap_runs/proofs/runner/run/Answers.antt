use Rattle.std.proofs.Common.{◌≡◌, [], None, arith, rules, subst}
use Rattle.std.proofs.lemmas.Option.{MatchOption-at_none}
use Rattle.snap_runs.specs.Runner.{HasDone}
use Rattle.snap_runs.specs.Schedules.{lines_of}
use Rattle.snap_runs.proofs.Running.{early-flying, early-waiting, lines-playing, run-through, so_far-first, so_far-more, stops-at}
use Rattle.snap_runs.proofs.runner.run.Goals as goal

pub loop-line-init : goal.loop-line-init
loop-line-init g c =
    let p = g.P.Playable in
    let none = c.requires.none in
    record {
      so_far = λ t hops first. so_far-first p.net p.leads p.begin p.plays p.left t hops c.args.schedule.now c.args.play.now first;
      bound = omega arith;
      count = omega (arith, none);
    }

pub obey-requires-clause-playing : goal.obey-requires-clause-playing
obey-requires-clause-playing g c =
    let p = g.P.Playable in
    let f = c.requires.fresh in
    let s = c.loop-line.invariant.so_far f.0 f.1 f.2 in
    lines-playing p.net p.leads p.begin p.plays p.left f.0 f.1 (p.left c.args.play.now) s.done c.loop-line.play s.plays

pub returns-then-not-branch-clause-ran : goal.returns-then-not-branch-clause-ran
returns-then-not-branch-clause-ran g c = λ t hops first.
    let p = g.P.Playable in
    let l = c.loop-line in
    stops-at p.net p.leads p.begin p.plays p.left t hops (p.left c.args.play.now) (lines_of c.args.schedule.now) l.rest.now l.number l.play (l.invariant.so_far t hops first) c.in-Some.line.now c.in-Some.behind.now c.in-Some.ensures.line c.obey.new.play
    (subst (HasDone p.net p.leads p.begin p.plays p.left c.in-Some.line.now l.play c.obey.new.play) c.if-not-branch.true c.in_ok-obey.ensures.done)

pub loop-line-preserved : goal.loop-line-preserved
loop-line-preserved g c =
    let p = g.P.Playable in
    let l = c.loop-line in
    let i = l.invariant in
    let bound = i.bound in
    let before = i.count in
    let shorter = c.in-Some.ensures.shorter in
    let more = c.in_ok-obey.ensures.count in
    record {
      so_far = λ t hops first. so_far-more p.net p.leads p.begin p.plays p.left t hops (p.left c.args.play.now) (lines_of c.args.schedule.now) l.rest.now l.number l.play (i.so_far t hops first) c.in-Some.line.now c.in-Some.behind.now c.in-Some.ensures.line c.obey.new.play
          (subst (HasDone p.net p.leads p.begin p.plays p.left c.in-Some.line.now l.play c.obey.new.play) c.if-not-branch.false c.in_ok-obey.ensures.done);
      bound = omega (arith, bound, shorter);
      count = omega (arith, before, more);
    }

pub returns-then-left-gt0-clause-ran : goal.returns-then-left-gt0-clause-ran
returns-then-left-gt0-clause-ran g c = λ t hops first.
    let p = g.P.Playable in
    let l = c.loop-line in
    let none : c.next_line.result ≡ None = first_of (cc, search rules) in
    let end : lines_of l.rest.now ≡ [] = MatchOption-at_none _ _ none c.next_line.ensures.line in
    let count = c.left.ensures in
    let test = c.if-left-gt0.true in
    early-waiting p.net p.leads p.begin p.plays p.left t hops (p.left c.args.play.now) (lines_of c.args.schedule.now) l.rest.now l.number l.play (l.invariant.so_far t hops first) end (omega (arith, count, test))

pub returns-then-flying-gt0-clause-ran : goal.returns-then-flying-gt0-clause-ran
returns-then-flying-gt0-clause-ran g c = λ t hops first.
    let p = g.P.Playable in
    let l = c.loop-line in
    let s = l.invariant.so_far t hops first in
    let none : c.next_line.result ≡ None = first_of (cc, search rules) in
    let end : lines_of l.rest.now ≡ [] = MatchOption-at_none _ _ none c.next_line.ensures.line in
    let count = c.flying.ensures.shown t hops s.plays.state s.plays.told s.plays.plays in
    let test = c.if-flying-gt0.true in
    early-flying p.net p.leads p.begin p.plays p.left t hops (p.left c.args.play.now) (lines_of c.args.schedule.now) l.rest.now l.number l.play s end (omega (arith, count, test))

pub returns-clause-ran : goal.returns-clause-ran
returns-clause-ran g c = λ t hops first.
    let p = g.P.Playable in
    let l = c.loop-line in
    let s = l.invariant.so_far t hops first in
    let none : c.next_line.result ≡ None = first_of (cc, search rules) in
    let end : lines_of l.rest.now ≡ [] = MatchOption-at_none _ _ none c.next_line.ensures.line in
    let count = c.left.ensures in
    let shown = c.flying.ensures.shown t hops s.plays.state s.plays.told s.plays.plays in
    let no_packet = c.if-left-gt0.false in
    let no_copy = c.if-flying-gt0.false in
    run-through p.net p.leads p.begin p.plays p.left t hops (p.left c.args.play.now) (lines_of c.args.schedule.now) l.rest.now l.number l.play s end (omega (arith, count, no_packet)) (omega (arith, shown, no_copy))
