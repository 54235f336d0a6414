use Rattle.std.proofs.Common.{◌≡◌, max, drop}
use Rattle.snap_names.specs.Declarations.{greatest}
use Rattle.snap_names.proofs.limits.greatest.Given as goal

-- The greatest number so far and those that are left give the greatest of all.
abbrev pub invariant-loop-arity : goal.invariant-loop-arity
invariant-loop-arity l = max l.most (greatest (drop l.arity-index l.arities)) ≡ greatest l.arities
