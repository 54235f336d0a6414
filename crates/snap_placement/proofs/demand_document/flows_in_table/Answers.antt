use Rattle.std.proofs.Common.{◌∙◌, codes, ap}
use Rattle.std.proofs.lemmas.Result.{IfOk-weaker}
use Rattle.toml.proofs.Views.{table_get}
use Rattle.snap_placement.specs.DemandShape.{flows_in}
use Rattle.snap_placement.proofs.demand_document.flows_in_table.Goals as goal

pub returns-in-Some : goal.returns-in-Some
returns-in-Some c =
    let found = table_get c.get.result (codes "demand") c.args.table.now.entries c.get.ensures.value in
    let here = rw c.in-Some.is at found in
    IfOk-weaker c.flows_in_value.result _ _ (λ r h. h ∙ ap flows_in here) c.flows_in_value.ensures

pub returns-in-None : goal.returns-in-None
returns-in-None c =
    let found = table_get c.get.result (codes "demand") c.args.table.now.entries c.get.ensures.value in
    let here = rw c.in-None.is at found in
    ap flows_in here
