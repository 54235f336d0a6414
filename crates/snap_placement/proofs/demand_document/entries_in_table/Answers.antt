use Rattle.std.proofs.Common.{◌∙◌, codes, ap}
use Rattle.std.proofs.lemmas.Result.{IfOk-weaker}
use Rattle.toml.proofs.Views.{table_get}
use Rattle.snap_placement.specs.DemandShape.{entries_in}
use Rattle.snap_placement.proofs.demand_document.entries_in_table.Goals as goal

pub returns-in-Some-clause-entries : goal.returns-in-Some-clause-entries
returns-in-Some-clause-entries c =
    let found = table_get c.get.result (codes "allowed") c.args.table.now.entries c.get.ensures.value in
    let here = rw c.in-Some.is at found in
    IfOk-weaker c.entries_in_value.result _ _ (λ r h. h ∙ ap entries_in here) c.entries_in_value.ensures.entries

pub returns-in-None-clause-entries : goal.returns-in-None-clause-entries
returns-in-None-clause-entries c =
    let found = table_get c.get.result (codes "allowed") c.args.table.now.entries c.get.ensures.value in
    let here = rw c.in-None.is at found in
    ap entries_in here
