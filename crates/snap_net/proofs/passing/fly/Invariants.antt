use Rattle.std.proofs.Common.{◌≡◌, ◌<◌, ◌+◌, ◌∷◌, [], length}
use Rattle.snap_rows.specs.Form.{switch_count}
use Rattle.snap_rows.specs.Home.{AtHome}
use Rattle.snap_rows.specs.Weight.{weight}
use Rattle.snap_net.specs.Passing.{Comes, IsHeard, entering}
use Rattle.snap_net.proofs.Carried.{there}
use Rattle.snap_net.proofs.passing.fly.Given as goal

abbrev pub invariant-loop-fate : goal.invariant-loop-fate
invariant-loop-fate g l = record {
  comes : Comes l.tables (l.number + 1) l.initial.stores.items (entering l.number l.from l.packet ∷ []) l.stores.items (there (entering l.number l.from l.packet) l.at l.head ∷ []) (IsHeard (g.W.Watch.saw l.tables) l.number l.initial.watch l.watch [] 0);
  count : length l.stores.items ≡ switch_count l.tables;
  at : l.at < switch_count l.tables;
  home : AtHome l.tables l.at l.head;
}

abbrev pub decreases-loop-fate : goal.decreases-loop-fate
decreases-loop-fate g l = weight l.tables l.at l.head
