use Rattle.snap_names.proofs.Limited.{Limits-within}
use Rattle.snap_names.proofs.scope.Scope.limited.Goals as goal

-- src/limits.rt
pub returns-clause-ok : goal.returns-clause-ok
returns-clause-ok c = Limits-within c.args.self c.args.tally c.args.body c.program.result c.in_ok-within_limits.ensures.nodes c.in_ok-within_limits.ensures.ok c.program.ensures.ok
