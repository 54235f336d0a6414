use Rattle.snap_words.specs.Commands.{plain, trace}
use Rattle.snap_cli.proofs.TraceOnce.{traces_exactly}
use Rattle.snap_cli.proofs.laws.traces_exactly.Goals as goal

pub returns : goal.returns
returns c = λ words files tables packets hops t status shelf_before shelf_now out_before out_now out_old out_new err_before err_now err_old err_new is spelled a.
    traces_exactly c.reading_is_deterministic.ensures files tables packets hops t spelled status out_old out_new err_before err_now err_old err_new
    (c.answers_exactly.ensures words files (trace tables packets hops plain) status shelf_before shelf_now out_before out_now out_old out_new err_before err_now err_old err_new is a)
