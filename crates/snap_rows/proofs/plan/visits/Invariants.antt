use Rattle.std.proofs.Common.{◌≡◌, ◌<◌, ◌≤◌, ◌-◌, ◌^◌, IfSome, Some, length}
use Rattle.std.specs.List.{All}
use Rattle.snap_core.specs.declared.policy.Update.{Update}
use Rattle.snap_core.specs.Arrays.{updates}
use Rattle.snap_core.specs.Cells.{arrays_of}
use Rattle.snap_core.specs.Fits.{UpdateReads}
use Rattle.snap_rows.specs.Entries.{rank_at, rank_of, row_at}
use Rattle.snap_rows.specs.Home.{IsVisitAtHome}
use Rattle.snap_rows.specs.Stepping.{Visiting}
use Rattle.snap_rows.proofs.plan.visits.Given as goal

abbrev pub invariant-loop-owner : goal.invariant-loop-owner
invariant-loop-owner g l = record {
  home : IsVisitAtHome l.tables l.due l.number;
  owner : rank_at l.tables l.due ≡ Some l.owner;
  known : IfSome l.known (λ row. row_at l.tables l.at l.number ≡ Some row.now);
  below : All (λ (u : Update). rank_of l.tables u.var < l.due) l.ups;
  reads : All (UpdateReads (length l.packet)) l.ups;
  first : l.rank ≤ l.due;
  made : Visiting l.tables l.at l.packet (g.A.Admit.admits l.admit) (arrays_of l.store) l.rank l.node (updates (arrays_of l.store) l.ups l.packet) l.due l.number;
}

abbrev pub decreases-loop-owner : goal.decreases-loop-owner
decreases-loop-owner g l = 2 ^ 16 - l.due
