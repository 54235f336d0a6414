use Rattle.std.proofs.Common.{◌∙◌, ap}
use Rattle.snap_placement.specs.DemandListing.{spelled_by}
use Rattle.snap_placement.specs.DemandShape.{spelled}
use Rattle.snap_placement.proofs.Demanding.{demand-read, least-of}
use Rattle.snap_placement.proofs.demand_reading.read_demand.Goals as goal

pub returns-clause-least : goal.returns-clause-least
returns-clause-least c =
    least-of c.args.groups.now c.args.program.now.arrays c.items.result.now c.items-2.result.now c.items-3.result.now (spelled_by c.in_ok-listing.listing) c.args.text.now _ c.resolve.result c.items.ensures
    (ap spelled c.in_ok-table.ensures ∙ c.in_ok-listing.ensures.spelled) c.in_ok-listing.ensures.order c.resolve.ensures

pub returns-clause-demand : goal.returns-clause-demand
returns-clause-demand c =
    demand-read c.args.groups.now c.args.program.now.arrays c.items.result.now c.items-2.result.now c.args.topology.now c.items-3.result.now (spelled_by c.in_ok-listing.listing) _ c.resolve.result c.requires.groups.count
    c.items.ensures c.items-2.ensures c.items-3.ensures c.resolve.ensures
