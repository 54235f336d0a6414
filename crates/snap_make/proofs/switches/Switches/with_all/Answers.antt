use Rattle.std.proofs.Common.{arith}
use Rattle.snap_make.proofs.Words.{both_has}
use Rattle.snap_make.proofs.switches.Switches.with_all.Goals as goal

pub returns : goal.returns
returns c = both_has c.args.self.now.words c.args.other.now.words (omega arith) (omega arith)
