use Rattle.snap_runs.proofs.Coming.{took-packet}
use Rattle.snap_runs.proofs.tracer.TracerMachine.take.Goals as goal

pub returns-clause-takes : goal.returns-clause-takes
returns-clause-takes c = λ first packets blocks stood.
    took-packet first packets blocks c.args.self.now stood c.args.line c.args.port c.args.packet.now c.take_packet.new.self c.args.text.now.items c.take_packet.new.text.items c.requires.port c.take_packet.ensures.tables c.take_packet.ensures.hops c.take_packet.ensures.frames c.take_packet.result c.take_packet.ensures.takes
