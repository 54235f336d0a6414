use Rattle.std.proofs.Common.{◌≡◌, ◌∙◌, ap, Some}
use Rattle.toml.specs.Data.{as_array}
use Rattle.toml.specs.View.{items_view, view}
use Rattle.snap_topology.proofs.TableLemmas.{no_link}
use Rattle.snap_topology.proofs.document.link_of.Goals as goal

pub returns-then-items-ne2 : goal.returns-then-items-ne2
returns-then-items-ne2 c =
    let same = c.as_slice-items.ensures.value in
    let is_array : Some (items_view c.as_slice-items.result.now) ≡ as_array (view c.args.value.now) = ap (λ vs. Some (items_view vs)) same ∙ rw c.in_ok-as_array.was at c.as_array.ensures in
    no_link (view c.args.value.now) c.as_slice-items.result.now is_array c.if-items-ne2.true
