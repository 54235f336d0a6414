use Rattle.snap_words.specs.Commands.{schedule, trace}
use Rattle.snap_cli.proofs.TraceOnce.{runs_exactly}
use Rattle.snap_cli.proofs.laws.schedules_exactly.Goals as goal

pub returns : goal.returns
returns c = λ words files tables packets lines hops t status shelf_before shelf_now out_before out_now out_old out_new err_before err_now err_old err_new is spelled a.
    runs_exactly c.reading_is_deterministic.ensures files tables packets hops t spelled status out_old out_new err_before err_now err_old err_new (schedule lines)
    (c.answers_exactly.ensures words files (trace tables packets hops (schedule lines)) status shelf_before shelf_now out_before out_now out_old out_new err_before err_now err_old err_new is a)
