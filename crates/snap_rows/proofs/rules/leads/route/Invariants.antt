use Rattle.std.proofs.Common.{◌++◌, ◌<◌, ℕ, List, map, drop}
use Rattle.snap_rows.specs.declared.tables.Stage.{Stage}
use Rattle.snap_rows.specs.Form.{switch_count}
use Rattle.snap_rows.specs.Ways.{Route}
use Rattle.snap_rows.proofs.rules.leads.route.Given as goal

abbrev pub invariant-loop-stage : goal.invariant-loop-stage
invariant-loop-stage l = record {
  low : l.here < switch_count l.tables;
  goes : (vs : List ℕ) → Route l.tables l.here (map (λ (s : Stage). s.at) (drop l.stage-index l.stages)) vs → Route l.tables l.at (map (λ (s : Stage). s.at) l.stages) (l.way.items ++ vs);
}
