use Rattle.std.proofs.Common.{◌≡◌, ◌-◌, length}
use Rattle.snap_order.specs.Ordered.{Ordered}
use Rattle.snap_order.specs.Rounding.{HasRoundedTo}
use Rattle.snap_order.specs.Shown.{RepresentsInOrder}
use Rattle.snap_order.proofs.round.step_all.Given as goal

abbrev pub invariant-loop-place : goal.invariant-loop-place
invariant-loop-place l = record {
  rounded : (s : Ordered) → RepresentsInOrder l.fn.net s → HasRoundedTo l.fn.net.net.tables s l.place l.net l.done.items;
  tables : l.net.net.tables ≡ l.fn.net.net.tables;
  injected : l.net.net.injected ≡ l.fn.net.net.injected;
}

abbrev pub decreases-loop-place : goal.decreases-loop-place
decreases-loop-place l = length l.net.net.flying - l.place
