use Rattle.std.proofs.Common.{◌<◌, ◌≤◌, List, [], length, get_or, ap, subst, ◌∙◌, arith}
use Rattle.snap_core.specs.declared.ports.PortAt.{PortAt}
use Rattle.snap_rows.specs.Following.{IsMarked}
use Rattle.snap_rows.proofs.Following.{marked_more, more_hold, port_has_row, port_reached}
use Rattle.snap_rows.proofs.rules.follow.from_ports.Goals as goal

pub mark-requires-clause-row : goal.mark-requires-clause-row
mark-requires-clause-row c = port_has_row c.args.tables.now c.requires.missing c.items-port-items.result.now c.loop-port.invariant.items c.loop-port.port-index (record { port = 0; at = 0 }) c.loop-port-test.true

pub mark-requires-clause-reached : goal.mark-requires-clause-reached
mark-requires-clause-reached c = port_reached c.args.tables.now c.items-port-items.result.now c.loop-port.invariant.items c.loop-port.port-index (record { port = 0; at = 0 }) c.loop-port-test.true

pub loop-port-preserved : goal.loop-port-preserved
loop-port-preserved c =
    let t = c.args.tables.now in
    let ps = c.items-port-items.result.now in
    let marks = c.loop-port.search.marks.items in
    let more = c.mark.new.self.marks.items in
    let grows = c.in_ok-mark.ensures.grows in
    record {
      long = grows.long ∙ c.loop-port.invariant.long;
      followed = grows.followed [] c.loop-port.invariant.followed;
      marked = more_hold (λ (p : PortAt). IsMarked t more p.at 0) ps c.loop-port.port-index (record { port = 0; at = 0 }) c.loop-port-test.true (λ i d below. marked_more t marks more (get_or ps i d).at 0 grows.kept (c.loop-port.invariant.marked i d below)) c.in_ok-mark.ensures.marked;
      items = c.loop-port.invariant.items;
    }

pub returns-clause-ports : goal.returns-clause-ports
returns-clause-ports c p is =
    let t = c.args.tables.now in
    let ps = c.items-port-items.result.now in
    let past : length t.ports ≤ c.loop-port.port-index = subst (λ (l : List PortAt). length l ≤ c.loop-port.port-index) c.loop-port.invariant.items c.loop-port-test.false in
    let within : is.0 < length t.ports = is.1 in
    subst (λ (q : PortAt). IsMarked t c.loop-port.search.marks.items q.at 0) (ap (λ (l : List PortAt). get_or l is.0 p) c.loop-port.invariant.items ∙ is.2) (c.loop-port.invariant.marked is.0 p (omega arith))
