use Rattle.std.proofs.Common.{ℕ, ◌<◌, get_or}
use Rattle.snap_rows.specs.Following.{IsMarked, Grows}
use Rattle.snap_rows.proofs.rules.follow.Search.mark_all.Given as goal

abbrev pub invariant-loop-at : goal.invariant-loop-at
invariant-loop-at l = record {
  grows : Grows l.tables l.fn.self.marks.items l.fn.self.left.items l.self.marks.items l.self.left.items;
  marked : (i d : ℕ) → i < l.at-index → IsMarked l.tables l.self.marks.items (get_or l.switches i d) l.number;
}
