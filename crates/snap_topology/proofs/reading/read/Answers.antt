use Rattle.std.proofs.Common.{Some}
use Rattle.toml.specs.View.{table_view}
use Rattle.snap_topology.specs.Listing.{spelled_by}
use Rattle.snap_topology.proofs.Forms.{shaped, form-answer}
use Rattle.snap_topology.proofs.reading.read.Goals as goal

pub returns-clause-form : goal.returns-clause-form
returns-clause-form c =
    let s = spelled_by c.in_ok-listing.listing in
    form-answer s c.resolve.result _ (shaped (Some (table_view c.in_ok-table.table)) s c.in_ok-listing.ensures) c.resolve.ensures.answer c.resolve.ensures.few
