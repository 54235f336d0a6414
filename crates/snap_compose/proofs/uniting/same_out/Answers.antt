-- Equal outs have equal codes.
use Rattle.std.proofs.Common.{rules}
use Rattle.snap_compose.proofs.Spelled.{spelled}
use Rattle.snap_compose.proofs.uniting.same_out.Goals as goal

pub returns : goal.returns
returns c = spelled c.args.a.now c.args.b.now c.same_parts.result (search rules)
