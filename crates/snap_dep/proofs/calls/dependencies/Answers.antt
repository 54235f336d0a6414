use Rattle.std.proofs.Common.{length, arith}
use Rattle.snap_core.specs.Fields.{count}
use Rattle.snap_dep.proofs.Below.{UsesBelow-fits, depends_below}
use Rattle.snap_dep.proofs.calls.dependencies.Goals as goal

pub pairs-requires-clause-within : goal.pairs-requires-clause-within
pairs-requires-clause-within c = rw c.deref.ensures.value (λ s t r.
    let p = c.args.program.now.body in
    let l = (depends_below (length c.args.program.now.arrays) p (UsesBelow-fits (count c.args.program.now.fields) (length c.args.program.now.arrays) p c.requires.fits) s t ((c.in_ok-rows.ensures.rows s t).0 r)).0 in
    let long = c.in_ok-rows.ensures.count in
    omega (arith, l, long))
