use Rattle.snap_dep.proofs.Sets.{in_cleared, cleared-less}
use Rattle.snap_dep.proofs.relation.without.Goals as goal

pub returns-clause-set : goal.returns-clause-set
returns-clause-set c = λ v. in_cleared c.args.set c.args.var v c.ranges.set.fits c.requires

pub returns-clause-less : goal.returns-clause-less
returns-clause-less c = cleared-less c.args.set c.args.var c.requires
