use Rattle.snap_order.proofs.Keeping.{keeps_order}
use Rattle.snap_order.proofs.net.open_ordered.Goals as goal

pub returns-in-Err-clause-order : goal.returns-in-Err-clause-order
returns-in-Err-clause-order c = λ p topology places f. keeps_order p topology places c.args.tables f c.requires.version

pub returns-in_err-net-in-Ok-clause-order : goal.returns-in_err-net-in-Ok-clause-order
returns-in_err-net-in-Ok-clause-order c = λ p topology places f. keeps_order p topology places c.args.tables f c.requires.version

pub returns-in_ok-net-in-Ok-clause-order : goal.returns-in_ok-net-in-Ok-clause-order
returns-in_ok-net-in-Ok-clause-order c = λ p topology places f. keeps_order p topology places c.args.tables f c.requires.version
