use Rattle.std.proofs.Common.{refl}
use Rattle.std.proofs.lemmas.Result.{err_from_is_err_and}
use Rattle.snap_runs.specs.declared.mover.Mover.{Mover}
use Rattle.snap_runs.proofs.ChangesComing.{stuck, took}
use Rattle.snap_runs.proofs.mover.MoverMachine.take.Goals as goal

pub returns-in_err-take_packet-clause-takes : goal.returns-in_err-take_packet-clause-takes
returns-in_err-take_packet-clause-takes c = λ first packets blocks stood.
    let m = c.args.self.now in
    let out = err_from_is_err_and c.from_residual.result c.from_residual.ensures.1 in
    let m' : Mover = record m { tracer = c.take_packet.new.self } in
    rw out.1 (rw out.2 (stuck first packets blocks m stood c.args.line c.args.port c.args.packet.now c.requires.port c.requires.ready.1 c.args.text.now.items c.take_packet.new.text.items c.take_packet.new.self m' c.in_err-take_packet.field-0.0 c.in_err-take_packet.ensures.takes))

pub returns-clause-takes : goal.returns-clause-takes
returns-clause-takes c = λ first packets blocks stood.
    let m = c.args.self.now in
    let m1 : Mover = record m { tracer = c.take_packet.new.self } in
    took first packets blocks m stood c.args.line c.args.port c.args.packet.now c.requires.port c.requires.ready.1 c.args.text.now.items c.take_packet.new.text.items m1 c.make_due.new.self refl c.take_packet.ensures.tables c.take_packet.ensures.hops c.take_packet.ensures.frames c.in_ok-take_packet.ensures.takes
    c.in_ok-make_due.ensures.stands c.make_due.ensures.hops c.make_due.ensures.frames
