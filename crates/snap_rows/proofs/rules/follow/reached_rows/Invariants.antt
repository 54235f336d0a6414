use Rattle.std.proofs.Common.{◌≡◌, ◌+◌, length}
use Rattle.snap_rows.specs.Following.{IsFollowed, ArePortsMarked}
use Rattle.snap_rows.specs.Reach.{falses}
use Rattle.snap_rows.proofs.rules.follow.reached_rows.Given as goal

abbrev pub invariant-loop-place : goal.invariant-loop-place
invariant-loop-place l = record {
  long : length l.search.marks.items ≡ length l.tables.rows;
  followed : IsFollowed l.tables l.search.marks.items l.search.left.items;
  ports : ArePortsMarked l.tables l.search.marks.items;
}

abbrev pub decreases-loop-place : goal.decreases-loop-place
decreases-loop-place l = falses l.search.marks.items + length l.search.left.items
