use Rattle.std.proofs.Common.{◌≡◌, [], map, drop, append-nil, ap, sym, subst}
use Rattle.std.proofs.lemmas.List.{drop_all}
use Rattle.snap_rows.specs.declared.tables.Stage.{Stage}
use Rattle.snap_rows.specs.Form.{IsLeafStageWellFormed}
use Rattle.snap_rows.specs.Ways.{Route, end}
use Rattle.snap_rows.proofs.Leading.{next_stage}
use Rattle.snap_rows.proofs.Rows.{All-get}
use Rattle.snap_rows.proofs.Spots.{found}
use Rattle.snap_rows.proofs.rules.leads.route.Goals as goal

pub loop-stage-preserved : goal.loop-stage-preserved
loop-stage-preserved c =
    let t = c.args.tables.now in
    let ss = c.args.stages.now in
    let i = c.loop-stage.stage-index in
    let s = c.stage-item.result in
    let way = c.in_ok-add_way.ensures in
    record {
      low = (All-get (IsLeafStageWellFormed t) ss i s c.requires.stages (found ss i s c.stage-item.is c.loop-stage-test.true)).at;
      goes = next_stage t c.args.at c.loop-stage.here s ss i c.loop-stage.way.items way.0 c.add_way.new.way.items c.loop-stage-test.true c.stage-item.is way.1 way.2 c.loop-stage.invariant.goes;
    }

pub returns : goal.returns
returns c =
    let t = c.args.tables.now in
    let ss = c.args.stages.now in
    let done : map (λ (s : Stage). s.at) (drop c.loop-stage.stage-index ss) ≡ [] = ap (map (λ (s : Stage). s.at)) (drop_all c.loop-stage.stage-index ss c.loop-stage-test.false) in
    subst (Route t c.args.at (map (λ (s : Stage). s.at) ss)) (append-nil c.loop-stage.way.items) (c.loop-stage.invariant.goes [] (subst (λ l. Route t c.loop-stage.here l []) (sym done) end))
