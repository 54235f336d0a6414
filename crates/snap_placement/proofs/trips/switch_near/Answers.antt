use Rattle.snap_placement.proofs.Ported.{found_near}
use Rattle.snap_placement.proofs.trips.switch_near.Goals as goal

pub returns-then-entry-port : goal.returns-then-entry-port
returns-then-entry-port c = found_near c.args.ports.now c.args.port c.in_ok-place.place c.in_ok-entry.entry.now c.requires c.in_ok-entry.ensures.lookup.3.0 c.in_ok-entry.ensures.lookup.3.1 c.if-entry-port.true
