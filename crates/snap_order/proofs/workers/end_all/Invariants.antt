use Rattle.std.proofs.Common.{◌≡◌, Bool, List, [], ℕ}
use Rattle.snap_rows.specs.declared.tables.Tables.{Tables}
use Rattle.snap_order.specs.Playing.{left_in}
use Rattle.snap_order.specs.Rounding.{PlaysRounds, toil}
use Rattle.snap_order.proofs.workers.end_all.Given as goal

abbrev pub invariant-loop-rounds : goal.invariant-loop-rounds
invariant-loop-rounds g l = record {
  ran : (t : Tables) (hops : Bool) (ks : List (List ℕ)) → PlaysRounds t hops ks l.fn.start → PlaysRounds t hops ks l.play;
  none : left_in l.play ≡ [];
  count : l.play.net.net.injected ≡ l.fn.start.net.net.injected;
}

abbrev pub decreases-loop-rounds : goal.decreases-loop-rounds
decreases-loop-rounds g l = toil l.play.net.net.tables l.play.net.net.flying
