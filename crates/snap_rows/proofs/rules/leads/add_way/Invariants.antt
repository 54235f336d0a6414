use Rattle.std.proofs.Common.{◌≡◌, ◌++◌, ◌+◌, ◌<◌, ℕ, List, length}
use Rattle.snap_rows.specs.Form.{switch_count}
use Rattle.snap_rows.specs.Ways.{Way}
use Rattle.snap_rows.proofs.rules.leads.add_way.Given as goal

abbrev pub invariant-loop-step : goal.invariant-loop-step
invariant-loop-step l = record {
  low : l.here < switch_count l.tables;
  items : (vs : List ℕ) → Way l.tables l.target l.here vs → (us : List ℕ) × Way l.tables l.target l.from us × (l.way.items ++ vs ≡ l.fn.way.items ++ us);
  left : (vs : List ℕ) → Way l.tables l.target l.here vs → length vs + l.step < switch_count l.tables;
}
