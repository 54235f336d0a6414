use Rattle.std.proofs.Common.{◌≡◌, ◌++◌, drop, take}
use Rattle.std.specs.Prelude.{◌==◌, filter}
use Rattle.snap_core.specs.declared.policy.Update.{Update}
use Rattle.snap_rows.specs.Entries.{rank_of}
use Rattle.snap_rows.proofs.visit.push_ranked.Given as goal

abbrev pub invariant-loop-update : goal.invariant-loop-update
invariant-loop-update l = record {
  done : l.ups ++ filter (λ (u : Update). rank_of l.tables u.var == l.rank) (drop l.update-index l.leaf) ≡ l.fn.ups ++ filter (λ (u : Update). rank_of l.tables u.var == l.rank) l.leaf;
  front : take l.before l.ups ≡ l.fn.ups;
}
