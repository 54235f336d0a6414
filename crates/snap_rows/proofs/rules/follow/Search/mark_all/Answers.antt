use Rattle.std.proofs.Common.{get_or}
use Rattle.snap_rows.specs.Following.{IsMarked}
use Rattle.snap_rows.proofs.Following.{grows_twice, marked_more, more_hold}
use Rattle.snap_rows.proofs.rules.follow.Search.mark_all.Goals as goal

pub loop-at-preserved : goal.loop-at-preserved
loop-at-preserved c =
    let t = c.args.tables.now in
    let marks = c.loop-at.self.marks.items in
    let more = c.mark.new.self.marks.items in
    let grows = c.in_ok-mark.ensures.grows in
    record {
      grows = grows_twice t c.args.self.now.marks.items marks more c.args.self.now.left.items c.loop-at.self.left.items c.mark.new.self.left.items c.loop-at.invariant.grows grows;
      marked = more_hold (λ x. IsMarked t more x c.args.number) c.args.switches.now c.loop-at.at-index 0 c.loop-at-test.true (λ i d below. marked_more t marks more (get_or c.args.switches.now i d) c.args.number grows.kept (c.loop-at.invariant.marked i d below)) c.in_ok-mark.ensures.marked;
    }
