use Rattle.std.proofs.Common.{◌∙◌, codes, ap}
use Rattle.std.proofs.lemmas.Result.{IfOk-weaker}
use Rattle.toml.proofs.Views.{table_get}
use Rattle.snap_topology.specs.Shape.{ports_in}
use Rattle.snap_topology.proofs.document.ports_in_table.Goals as goal

pub returns-in-Some : goal.returns-in-Some
returns-in-Some c =
    let found = table_get c.get.result (codes "ports") c.args.table.now.entries c.get.ensures.value in
    let here = rw c.in-Some.is at found in
    IfOk-weaker c.ports_in_value.result _ _ (λ r h. h ∙ ap ports_in here) c.ports_in_value.ensures

pub returns-in-None : goal.returns-in-None
returns-in-None c =
    let found = table_get c.get.result (codes "ports") c.args.table.now.entries c.get.ensures.value in
    let here = rw c.in-None.is at found in
    ap ports_in here
