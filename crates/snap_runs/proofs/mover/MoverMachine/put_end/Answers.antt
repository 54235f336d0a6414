use Rattle.snap_runs.proofs.ChangesComing.{report-put}
use Rattle.snap_runs.proofs.mover.MoverMachine.put_end.Goals as goal

pub returns-clause-ends : goal.returns-clause-ends
returns-clause-ends g c = λ first packets blocks stood.
    report-put first packets blocks c.args.self.now stood c.requires.ready.1 c.args.out.now.text.items c.put_places.new.text.items c.in_ok-put_places.ensures _
