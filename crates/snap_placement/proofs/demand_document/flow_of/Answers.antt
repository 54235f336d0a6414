use Rattle.std.proofs.Common.{◌≡◌, ◌∙◌, ap, Some}
use Rattle.toml.specs.Data.{as_array}
use Rattle.toml.specs.View.{items_view, view}
use Rattle.snap_placement.proofs.Documents.{no_flow}
use Rattle.snap_placement.proofs.demand_document.flow_of.Goals as goal

pub returns-then-items-ne3 : goal.returns-then-items-ne3
returns-then-items-ne3 c =
    let same = c.as_slice-items.ensures.value in
    let is_array : Some (items_view c.as_slice-items.result.now) ≡ as_array (view c.args.value.now) = ap (λ vs. Some (items_view vs)) same ∙ rw c.in_ok-as_array.was at c.as_array.ensures in
    no_flow (view c.args.value.now) c.as_slice-items.result.now is_array c.if-items-ne3.true
