use Rattle.snap_core.specs.Fields.{count}
use Rattle.std.proofs.Common.{◌≡◌, length, subst, sym, rules}
use Rattle.snap_dep.specs.Dependencies.{UsesBelow}
use Rattle.snap_dep.proofs.Below.{UsesBelow-fits}
use Rattle.snap_dep.proofs.calls.related.Goals as goal

pub depend-requires-clause-below : goal.depend-requires-clause-below
depend-requires-clause-below c =
    let long : length c.deref_mut.result.now ≡ length c.args.program.now.arrays = search rules in
    subst (λ n. UsesBelow n c.args.program.now.body) (sym long) (UsesBelow-fits (count c.args.program.now.fields) (length c.args.program.now.arrays) c.args.program.now.body c.requires.fits)
