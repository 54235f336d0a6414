use Rattle.std.proofs.Common.{◌≡◌, ◌<◌, ◌≤◌, length, Some, sym, ap, ◌∙◌, arith}
use Rattle.std.specs.Prelude.{slice_get}
use Rattle.std.proofs.lemmas.Option.{slice_get_within, get_or_from_slice_get}
use Rattle.std.proofs.lemmas.Result.{on_ok_weaker}
use Rattle.snap_rows.specs.declared.tables.Stage.{Stage}
use Rattle.snap_rows.proofs.Nexts.{route_next}
use Rattle.snap_rows.proofs.rules.leads.leaf_next.Goals.{else-stages-gt0-via-then-stages-gt0+else-stages-at, else-stages-gt0-via-else-stages-gt0}
use Rattle.snap_rows.proofs.rules.leads.leaf_next.Goals as goal

-- the first stage stands here, if there is one
first : (c : goal.After-route) → (s : Stage) → slice_get c.args.stages.now 0 ≡ Some s → s.at ≡ c.args.at
first c s e = elim c.else-stages-gt0.branch [
  | else-stages-gt0-via-then-stages-gt0+else-stages-at w ↦
      ap (λ (s : Stage). s.at) (sym (get_or_from_slice_get c.args.stages.now 0 s w.index-stages-0.result e)) ∙ w.if-stages-at.false
  | else-stages-gt0-via-else-stages-gt0 w ↦
      absurd (let within : 0 < length c.args.stages.now = slice_get_within c.args.stages.now 0 s e in let none : length c.args.stages.now ≤ 0 = w.if-stages-gt0.false in omega arith)
]

pub returns : goal.returns
returns c = on_ok_weaker c.route.result (λ route os. route_next c.args.tables.now c.args.at c.args.stages.now os c.route.new.way.items (first c) route) c.route.ensures
