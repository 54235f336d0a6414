use Rattle.std.proofs.Common.{◌≤◌, ◌+◌, length, subst, arith}
use Rattle.snap_core.proofs.Beside.{length-beside}
use Rattle.snap_core.proofs.array.Array.len.Goals as goal

pub returns : goal.returns
returns c =
    let held = c.self.inside in
    let less : length c.args.self.now.0 ≤ length held.table.0 + length held.crowded =
    subst (λ v. length v.0 ≤ length held.table.0 + length held.crowded) c.self.view_is (length-beside held.table.0 held.crowded) in
    let first = c.len.ensures.length in let second = c.len-2.ensures.length in
    omega (arith, less, first, second)
