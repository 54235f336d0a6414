use Rattle.std.proofs.Common.{arith}
use Rattle.snap_make.proofs.Words.{with_has}
use Rattle.snap_make.proofs.switches.Switches.with.Goals as goal

pub returns : goal.returns
returns c = with_has c.args.self.now.words c.args.at c.bit.result c.bit.ensures (omega arith)
