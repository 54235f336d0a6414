use Rattle.std.proofs.Common.{◌≡◌, ℕ, ◌<◌, length, get_or}
use Rattle.snap_core.specs.declared.ports.PortAt.{PortAt}
use Rattle.snap_rows.specs.Following.{IsMarked, IsFollowed}
use Rattle.snap_rows.proofs.rules.follow.from_ports.Given as goal

abbrev pub invariant-loop-port : goal.invariant-loop-port
invariant-loop-port l = record {
  long : length l.search.marks.items ≡ length l.tables.rows;
  followed : IsFollowed l.tables l.search.marks.items l.search.left.items;
  marked : (i : ℕ) (p : PortAt) → i < l.port-index → IsMarked l.tables l.search.marks.items (get_or l.port-items i p).at 0;
  items : l.port-items ≡ l.tables.ports;
}
