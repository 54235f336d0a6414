use Rattle.std.proofs.Common.{arith}
use Rattle.snap_core.proofs.FieldLemmas.{count-fields}
use Rattle.snap_core.proofs.program.Fields.count.Goals as goal

pub returns-clause-bounds : goal.returns-clause-bounds
returns-clause-bounds c =
    let fields = c.self.invariant.0 in
    (omega (arith, count-fields c.self.inside.fields.items fields), omega (arith, fields.few))
