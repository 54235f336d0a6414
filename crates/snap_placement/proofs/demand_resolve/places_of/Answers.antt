use Rattle.snap_placement.specs.DemandListing.{entry_texts}
use Rattle.snap_placement.proofs.Demanding.{places-then}
use Rattle.snap_placement.proofs.demand_resolve.places_of.Goals as goal

pub returns : goal.returns
returns c =
    places-then c.args.groups.now c.args.arrays.now c.args.switches.now (entry_texts c.args.entries.now) c.in_ok-marks.marks.items c.deref.result.now c.deref.ensures.value c.in_ok-marks.ensures.count c.in_ok-marks.ensures.marks c.in_ok-marks.ensures.fault
    c.all_places.result c.all_places.ensures.count c.all_places.ensures.places c.all_places.ensures.some c.all_places.ensures.nowhere
