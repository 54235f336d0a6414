use Rattle.std.proofs.Common.{◌≤◌, ◌+◌, Bool, List, ℕ, length}
use Rattle.snap_rows.specs.declared.tables.Tables.{Tables}
use Rattle.snap_order.specs.Playing.{left_in}
use Rattle.snap_order.specs.Rounding.{PlaysRounds}
use Rattle.snap_order.proofs.workers.begin_all.Given as goal

abbrev pub invariant-loop-play : goal.invariant-loop-play
invariant-loop-play g l = record {
  ran : (t : Tables) (hops : Bool) (ks : List (List ℕ)) → PlaysRounds t hops ks l.fn.start → PlaysRounds t hops ks l.play;
  few : l.play.net.net.injected + length (left_in l.play) ≤ 1000000;
}

abbrev pub decreases-loop-play : goal.decreases-loop-play
decreases-loop-play g l = length (left_in l.play)
