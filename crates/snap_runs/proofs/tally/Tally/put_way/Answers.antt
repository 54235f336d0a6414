use Rattle.std.proofs.Common.{◌++◌, sym, ap, ◌∙◌, append-nil}
use Rattle.std.proofs.lemmas.Result.{on_ok_weaker}
use Rattle.snap_runs.specs.Crossings.{digits_of, way_text}
use Rattle.snap_runs.proofs.Passing.{way_ends}
use Rattle.snap_runs.proofs.tally.Tally.put_way.Goals as goal

pub returns-then-from-to-clause-lines : goal.returns-then-from-to-clause-lines
returns-then-from-to-clause-lines c = λ ws way.
    let t = c.args.tables.now in
    let y = c.args.self.now in
    let digits = digits_of y.frames c.args.number c.args.head c.args.packet.now in
    sym (append-nil y.hops.items) ∙ ap (λ l. y.hops.items ++ way_text t.switches digits c.args.from l) (sym (way_ends t c.args.to c.args.from ws c.if-from-to.true way))

pub returns-clause-lines : goal.returns-clause-lines
returns-clause-lines c =
    let t = c.args.tables.now in
    let i = c.args.number in
    let h = c.args.head in
    let k = c.args.packet.now in
    let digits = digits_of c.make_room.new.self.frames i h k in
    on_ok_weaker c.put_way.result
    (λ put ws way. put digits c.in_ok-spell.ensures ws way ∙ (λ j. c.make_room.ensures.hops j ++ way_text t.switches (digits_of (c.make_room.ensures.frames j) i h k) c.args.from ws))
    c.put_way.ensures
